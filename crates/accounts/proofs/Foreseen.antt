-- A plan comes to the same on an outlook as on the lists that it is of.
use Rattle.lists.proofs.Prelude.{Bool, true, false, List, [], ◌≡◌, refl, sym, ap, ap₂, subst, ℕ, suc, ◌+◌, ◌*◌, arith, eqb, ltb, length, eqb-true, empty, by-test, and_left, empty-is}
use Rattle.postings.specs.Merge.{put}
use Rattle.answers.specs.Answers.{done, Outcome, leave, refuse_if, choose}
use Rattle.state.specs.Levels.{of_level}
use Rattle.identifiers.specs.Names.{Name}
use Rattle.forecasts.specs.Plan.{Planned, Placed, opening, counting, closing}
use Rattle.forecasts.specs.Course.{follow}
use Rattle.forecasts.specs.Outlook as outlook
use Rattle.forecasts.specs.Outlook.{Outlook, outlook_gauge, planned}
use Rattle.forecasts.proofs.Alike.{Agree, both_refuse, both_leave, follow-same}
use Rattle.accounts.specs.Account.{blocks_in, blocks_ahead, flushed_account, overflows, flushing, flushing_if}
use Rattle.accounts.specs.Lists.{Lists, opened_lists, closed_lists, once_of, counted_lists, lists_gauge, planned_lists}
use Rattle.accounts.proofs.Stored.{level_of}
use Rattle.accounts.proofs.Inputs.{count-added}
use Rattle.accounts.proofs.Shaped.{overflows-is}
use Rattle.accounts.proofs.Fits.{blocks-flushed}
use Rattle.accounts.proofs.Ahead.{twelve-never}

-- the outlook that lists have
abbrev pub outlook_in : Lists → Outlook
outlook_in e = record {
  last = e.windows.last;
  current = e.windows.current;
  events = e.windows.events;
  names = e.names;
  listed = e.listed;
  buffer = e.account.buffer;
  low = of_level level_of 0 e.account.partitions;
  blocks = blocks_in e.account;
}

-- an outlook is that of lists
abbrev Seen : Outlook → Lists → Type 0
Seen o e = o ≡ outlook_in e

-- one test on both sides
refusing : (t : Bool) (n : ℕ) (o : Outcome Outlook) (q : Outcome Lists) → (t ≡ false → Agree Seen o q) → Agree Seen (refuse_if t n o) (refuse_if t n q)
unfolding refuse_if
refusing true n o q h = both_refuse
refusing false n o q h = h refl

-- ---- what a plan's calls leave

opened-same : (e : Lists) → outlook.opened (outlook_in e) ≡ outlook_in (opened_lists e)
unfolding outlook.opened opened_lists
opened-same e = refl

closed_same : (e : Lists) → outlook.closed (outlook_in e) ≡ outlook_in (closed_lists e)
unfolding outlook.closed closed_lists
closed_same e = refl

module _ (e : Lists) (n : Name) where
  counted_same : outlook.counted n (outlook_in e) ≡ outlook_in (counted_lists e n e.account)
  unfolding outlook.counted counted_lists blocks_in
  counted_same = refl

  overflows-same : overflows (once_of e n) e.account ≡ outlook.overflows n (outlook_in e)
  unfolding outlook.overflows
  overflows-same = overflows-is (once_of e n) e.account

  module _ (over : outlook.overflows n (outlook_in e) ≡ true) where
    -- an event that flushes finds a full buffer
    full : length e.account.buffer ≡ 128
    unfolding outlook.overflows
    full = eqb-true (length e.account.buffer) 128 (and_left (eqb (length e.account.buffer) 128) _ over)

    some : empty e.account.buffer ≡ false
    some = by-test (empty e.account.buffer) (λ y. absurd (omega (arith, ap length (empty-is e.account.buffer y), full))) (λ f. f)

    -- one partition of level 0 and one block more
    flushed-same : outlook.counted n (outlook.flushed (outlook_in e)) ≡ outlook_in (counted_lists e n (flushed_account e.account))
    unfolding outlook.counted outlook.flushed counted_lists flushed_account blocks_in
    flushed-same = ap₂ (λ low blocks. record {
      last = e.windows.last;
      current = e.windows.current;
      events = suc e.windows.events;
      names = (counted_lists e n e.account).names;
      listed = (counted_lists e n e.account).listed;
      buffer = put (once_of e n) [];
      low = low;
      blocks = blocks;
    }) low-more blocks_more
      where
        low-more : suc (of_level level_of 0 e.account.partitions) ≡ of_level level_of 0 (flushed_account e.account).partitions
        low-more = omega (arith, count-added level_of 0 e.account.partitions (record { level = 0; postings = e.account.buffer }) refl)

        blocks_more : suc (blocks_in e.account) ≡ blocks_in (flushed_account e.account)
        blocks_more = omega (arith, blocks-flushed e.account (omega (arith, full)) some)

-- ---- what they come to

module _ (blocks entries : ℕ) where
  -- refusal 12 is never met
  free-same : (e : Lists) (n : Name) → outlook.overflows n (outlook_in e) ≡ true → ltb blocks (2 * suc (blocks_in e.account)) ≡ false
      → Agree Seen (leave done (outlook.counted n (outlook.flushed (outlook_in e))))
      (refuse_if (ltb blocks (suc (blocks_in e.account + blocks_ahead e.account))) 12 (leave done (counted_lists e n (flushed_account e.account))))
  unfolding refuse_if
  free-same e n over eleven = rw (twelve-never blocks e.account eleven) (both_leave (flushed-same e n over))

  flush-same : (e : Lists) (n : Name)
      → Agree Seen (outlook.flushing_if blocks entries (outlook.overflows n (outlook_in e)) (outlook_in e) (λ q. leave done (outlook.counted n q)))
      (flushing_if blocks (overflows (once_of e n) e.account) e.account (λ a. leave done (counted_lists e n a)))
  unfolding outlook.flushing_if flushing_if flushing choose
  flush-same e n =
      rw (overflows-same e n)
      (by-test (outlook.overflows n (outlook_in e))
      (λ y. rw (y, some e n y) (refusing _ 10 _ _ λ _. refusing _ 11 _ _ (free-same e n y)))
      (λ f. rw f (both_leave (counted_same e n))))

  planned-same : (e : Lists) (c : Planned) → Agree Seen (planned blocks entries (outlook_in e) c) (planned_lists blocks entries e c)
  unfolding planned planned_lists
  planned-same e opening = refusing _ 5 _ _ λ _. refusing _ 6 _ _ λ _. both_leave (opened-same e)
  planned-same e (counting n) =
      refusing _ 4 _ _ λ _. refusing _ 5 _ _ λ _. refusing _ 6 _ _ λ _. refusing _ 8 _ _ λ _. refusing _ 9 _ _ λ _. flush-same e n
  planned-same e closing = refusing _ 5 _ _ λ _. both_leave (closed_same e)

  -- refusals, flushes, blocks and entries are told alike
  pub outlook-forecast : (cs : List Placed) (e : Lists) → follow outlook_gauge (planned blocks entries) 0 (outlook_in e) cs ≡ follow lists_gauge (planned_lists blocks entries) 0 e cs
  outlook-forecast cs e =
      follow-same outlook_gauge lists_gauge _ _ Seen
      (λ o d r. record { low = ap (λ (x : Outlook). x.low) r; blocks = ap (λ (x : Outlook). x.blocks) r; entries = ap (λ (x : Outlook). length x.names) r })
      (λ o d r c. subst (λ x. Agree Seen (planned blocks entries x c) (planned_lists blocks entries d c)) (sym r) (planned-same d c))
      cs 0 (outlook_in e) e refl
