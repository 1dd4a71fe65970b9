-- What a stretch has read on bytes is what it has read on lists.
use Rattle.lists.proofs.Prelude.{Bool, true, ◌&&◌, List, ◌++◌, map, ◌≡◌, sym, ap, ap₂, ◌∙◌, fun_ext, ℕ, eqb, leb, eqb-true, length, keep, every, elem, and_left, and_right, every-from, every-keep, every_map, keep-agree, keep-map}
use Rattle.postings.specs.declared.Posting.{Posting}
use Rattle.postings.specs.declared.Stretch.{Stretch}
use Rattle.postings.specs.Sums.{sum, under, above}
use Rattle.postings.specs.Spans.{lowest}
use Rattle.state.specs.declared.Partition.{Partition}
use Rattle.state.specs.declared.State.{State}
use Rattle.state.specs.Views.{finished, no_partition}
use Rattle.state.specs.Shown.{shown_in}
use Rattle.state.proofs.Rows.{held}
use Rattle.partitions.specs.Layout.{length_of}
use Rattle.partitions.specs.Reading.{postings_of, in_partitions, stored}
use Rattle.partitions.specs.Formed.{list_rule, span_rule, lists_rule, sums_in_range, identifier_formed}
use Rattle.spans.proofs.Lists.{spans_told, lists-spanned}
use Rattle.stretches.specs.Reached.{reaches, read_by}
use Rattle.sums.specs.Tally as bytes
use Rattle.census.specs.Existing.{existing}
use Rattle.queries.specs.Query.{count_in, taken_up, existing_in}
use Rattle.accounts.specs.Account as lists
use Rattle.accounts.specs.Account.{Portion, Account, postings_in, stored_in, taken_from}
use Rattle.accounts.specs.Lists.{Lists, identifier_rule, lists_ruled, read_rule, count_of}
use Rattle.decoded.specs.Portions.{portion_on, tells}
use Rattle.decoded.proofs.Holds.{Holds, partitions-is, buffer-is}

-- ---- where records tell what is read

module _ (W : List ℕ) where
  -- the windows told are those that are read
  pub spans-told : (l : List Partition) → every (λ p. tells p (postings_of W p)) l ≡ true → spans_told W l ≡ true
  spans-told l e = every-from (λ p. tells p (postings_of W p)) (λ p. tells p (postings_of W p)) (λ p. span_rule p (postings_of W p)) (λ p x y. and_right (eqb p.length (length_of (postings_of W p))) _ x) l e e

  -- so all lists are well formed where each is by itself
  pub lists-told : (l : List Partition) → every (λ p. tells p (postings_of W p)) l ≡ true → every (lists_rule W) l ≡ every (λ p. list_rule (postings_of W p)) l
  lists-told l e = lists-spanned W l (spans-told l e)

  -- and a partition reaches a stretch by its record as by its postings
  reaches-told : (t : Stretch) (p : Partition) → tells p (postings_of W p) ≡ true → reaches t p ≡ lists.reaches t (portion_on W p)
  reaches-told t p e =
      let span = and_right (eqb p.length (length_of (postings_of W p))) _ e in
      ap₂ (λ hi lo. leb t.first hi && leb lo t.last) (eqb-true _ _ (and_right (eqb p.lowest (lowest (postings_of W p))) _ span))
      (eqb-true _ _ (and_left (eqb p.lowest (lowest (postings_of W p))) _ span))

-- ---- what is read

module _ (s : State) (W : List ℕ) (e : Lists) (h : Holds s W e) (t : Stretch) where
  abbrev read : State
  read = read_by t s

  abbrev account : Account
  account = lists.read_by t e.account

  finished-read : finished read.partitions ≡ keep (reaches t) (finished s.partitions)
  finished-read = held 51 no_partition (keep (reaches t) (finished s.partitions))

  portions-read : map (portion_on W) (finished read.partitions) ≡ account.partitions
  unfolding lists.read_by
  portions-read =
      ap (map (portion_on W)) finished-read
      ∙ ap (map (portion_on W)) (keep-agree (reaches t) (λ p. lists.reaches t (portion_on W p)) (λ p. tells p (postings_of W p)) (reaches-told W t) (finished s.partitions) h.sizes)
      ∙ sym (keep-map (lists.reaches t) (portion_on W) (finished s.partitions)) ∙ ap (keep (lists.reaches t)) h.portions

  sizes-read : every (λ p. tells p (postings_of W p)) (finished read.partitions) ≡ true
  sizes-read =
      ap (every (λ p. tells p (postings_of W p))) finished-read
      ∙ every-keep (reaches t) (λ p. tells p (postings_of W p)) (finished s.partitions) h.sizes

  -- a test of every partition's postings
  every-read : (f : List Posting → Bool) → every (λ (q : Partition). f (postings_of W q)) (finished read.partitions) ≡ every (λ (q : Portion). f q.postings) account.partitions
  every-read f = sym (every_map (λ (q : Portion). f q.postings) (portion_on W) (finished read.partitions)) ∙ ap (every (λ (q : Portion). f q.postings)) portions-read

  inside-read : in_partitions W (finished read.partitions) ≡ postings_in account.partitions
  inside-read = partitions-is read W account portions-read

  stored-read : stored W read ≡ stored_in account
  unfolding stored lists.read_by
  stored-read = ap₂ (λ (x y : List Posting). x ++ y) (unfold lists.read_by in inside-read) (buffer-is s W e h)

  -- what is read of one identifier
  identifier-read : (i : ℕ) → identifier_formed W read i ≡ identifier_rule account i
  unfolding identifier_formed identifier_rule
  identifier-read i =
      ap₂ ◌&&◌ (every-read (λ l. list_rule (under i l)))
      (ap₂ ◌&&◌ (ap (λ l. sums_in_range (under i l)) inside-read) (ap (λ l. sums_in_range (under i l)) stored-read))

  -- refusal 3 of lists and identifiers
  pub rule-read : (is : List ℕ) → (bytes.lists_ruled W read && every (identifier_formed W read) is) ≡ read_rule account is
  rule-read is =
      ap₂ (λ (b : Bool) (f : ℕ → Bool). b && every f is) (lists-told W (finished read.partitions) sizes-read ∙ every-read list_rule) (fun_ext identifier-read)

  -- counts, N and postings taken
  pub counts-read : count_in W read ≡ count_of account
  unfolding count_in count_of
  counts-read = fun_ext λ i. fun_ext λ w. ap (λ l. above (sum l i w)) stored-read

  pub existing-read : existing_in W read t ≡ existing (stored_in account) (shown_in t e.windows)
  unfolding existing_in
  existing-read = ap₂ (λ l v. existing l (shown_in t v)) stored-read h.windows

  pub taken-read : (is : List ℕ) → taken_up W read is ≡ taken_from is account
  unfolding taken_up taken_from
  taken-read is = ap (λ (l : List Posting). length (keep (λ q. elem q.id is) l)) stored-read
