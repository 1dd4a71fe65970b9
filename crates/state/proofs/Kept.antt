-- What the rules of the state say, as plain facts, and back.
use Rattle.lists.proofs.Prelude.{true, false, ◌&&◌, ◌||◌, not, cond, ◌⊎◌, inl, inr, ◌≡◌, ℕ, ◌*◌, ◌/◌, ◌%◌, ◌<◌, ◌≤◌, div-add-mod', mul_comm, arith, eqb, leb, ltb, nat_abs, length, drop, ltb-true, leb-true, eqb-true, eqb-false, lt-ltb, le-leb, eq-eqb, ne_eqb, not-true, every, empty, different, by-test, and_left, and_right}
use Rattle.postings.specs.declared.Posting.{Posting}
use Rattle.postings.specs.Merge.{is_zero}
use Rattle.postings.specs.Order.{ordered}
use Rattle.postings.specs.Sums.{above}
use Rattle.state.specs.declared.Lengths.{Lengths}
use Rattle.state.specs.declared.Windows.{Windows}
use Rattle.state.specs.declared.Listed.{Listed}
use Rattle.state.specs.declared.Buffer.{Buffer}
use Rattle.state.specs.declared.Partition.{Partition}
use Rattle.state.specs.declared.Partitions.{Partitions}
use Rattle.state.specs.declared.MergeJob.{MergeJob}
use Rattle.state.specs.declared.State.{State}
use Rattle.state.specs.Views.{blocks, no_merge, listed, buffered, finished, listed_of, buffer_of, partitions_of}
use Rattle.state.specs.Levels.{levels, level_limit, of_level, due_levels}
use Rattle.state.specs.Rules.{card_length, register_length, lengths_rule, windows_rule, listed_rule, posting_rule, buffer_rule, record_rule, unused_record, never_rise, partitions_rule, merge_rule, state_rule}
use Rattle.state.proofs.Forms.{listed-form, buffer-form, partitions-form}

-- ---- lengths

-- both lengths are whole numbers of blocks and entries, within the limits
pub record LengthsKept (l : Lengths) : Type 0 where
  pub card : l.card ≡ 4096 * (l.card / 4096)
  pub fewest_blocks : 4 ≤ l.card / 4096
  pub most_blocks : l.card / 4096 ≤ 4096
  pub register : l.register ≡ 65 * (l.register / 65)
  pub fewest_entries : 1 ≤ l.register / 65
  pub most_entries : l.register / 65 ≤ 1024

whole : (n m : ℕ) → eqb (n % m) 0 ≡ true → n ≡ m * (n / m)
whole n m e =
    let z : n % m ≡ 0 = eqb-true (n % m) 0 e in
    let d = div-add-mod' n m in
    let c = mul_comm m (n / m) in
    omega arith

-- what the rule of the lengths says
pub lengths-kept : (l : Lengths) → lengths_rule l ≡ true → LengthsKept l
unfolding lengths_rule
lengths-kept l e =
    let c : card_length l.card ≡ true = and_left (card_length l.card) (register_length l.register) e in
    let r : register_length l.register ≡ true = and_right (card_length l.card) (register_length l.register) e in
    let c₁ = and_right (eqb (l.card % 4096) 0) _ c in
    let r₁ = and_right (eqb (l.register % 65) 0) _ r in
    record {
      card = whole l.card 4096 (and_left (eqb (l.card % 4096) 0) _ c);
      fewest_blocks = leb-true _ _ (and_left (leb 4 (l.card / 4096)) _ c₁);
      most_blocks = leb-true _ _ (and_right (leb 4 (l.card / 4096)) _ c₁);
      register = whole l.register 65 (and_left (eqb (l.register % 65) 0) _ r);
      fewest_entries = leb-true _ _ (and_left (leb 1 (l.register / 65)) _ r₁);
      most_entries = leb-true _ _ (and_right (leb 1 (l.register / 65)) _ r₁);
    }

-- ---- windows

-- no window is open
pub record Shut (w : Windows) : Type 0 where
  pub number : w.current ≡ 0
  pub events : w.events ≡ 0

-- with a window open: it is the last that was numbered, and N is below it
pub record Opened (w : Windows) : Type 0 where
  pub some : 1 ≤ w.current
  pub number : w.current ≡ w.last
  pub events : w.events ≤ 32767
  pub below : w.live < w.current

-- N is at most the last number given, and a window is open or not
pub record WindowsKept (w : Windows) : Type 0 where
  pub live : w.live ≤ w.last
  pub window : Shut w ⊎ Opened w

-- what the rule of the windows says
pub windows-kept : (w : Windows) → windows_rule w ≡ true → WindowsKept w
unfolding windows_rule
windows-kept w e = record { live = leb-true _ _ (and_left (leb w.live w.last) _ e); window = cases (and_right (leb w.live w.last) _ e) }
  where
    cases : cond (eqb w.current 0) (eqb w.events 0) (eqb w.current w.last && (leb w.events 32767 && ltb w.live w.current)) ≡ true
        → Shut w ⊎ Opened w
    cases q =
        by-test (eqb w.current 0) (λ y. inl (record { number = eqb-true _ _ y; events = eqb-true _ _ (rw y at q) }))
        (λ n. let r : (eqb w.current w.last && (leb w.events 32767 && ltb w.live w.current)) ≡ true = rw n at q in
        let t = and_right (eqb w.current w.last) _ r in
        let z = eqb-false w.current 0 n in
        inr (record {
          some = omega arith;
          number = eqb-true _ _ (and_left (eqb w.current w.last) _ r);
          events = leb-true _ _ (and_left (leb w.events 32767) _ t);
          below = ltb-true _ _ (and_right (leb w.events 32767) _ t);
        }))

-- and back
pub windows-rule : (w : Windows) → WindowsKept w → windows_rule w ≡ true
unfolding windows_rule
windows-rule w k = rw (le-leb w.live w.last k.live) (cases k.window)
  where
    cases : Shut w ⊎ Opened w
        → cond (eqb w.current 0) (eqb w.events 0) (eqb w.current w.last && (leb w.events 32767 && ltb w.live w.current)) ≡ true
    cases (inl s) = rw (eq-eqb w.current 0 s.number) (eq-eqb w.events 0 s.events)
    cases (inr o) =
        let some = o.some in
        rw (ne_eqb w.current 0 (λ z. omega arith), eq-eqb w.current w.last o.number, le-leb w.events 32767 o.events)
        (lt-ltb _ _ o.below)

-- ---- the open window's identifiers

-- at most 64 different identifiers, none without an open window, and zeros after them
pub record ListedKept (w : Windows) (l : Listed) : Type 0 where
  pub used : l.used ≤ 64
  pub small : every (λ i. leb i 1023) (listed l) ≡ true
  pub once : different (listed l) ≡ true
  pub none : w.current ≡ 0 → l.used ≡ 0
  pub form : length l.ids ≡ 64 → l ≡ listed_of (listed l)

-- what the rule of the list says
pub listed_kept : (w : Windows) (l : Listed) → listed_rule w l ≡ true → ListedKept w l
unfolding listed_rule
listed_kept w l e =
    let a = and_right (leb l.used 64) _ e in
    let b = and_right (every (λ i. leb i 1023) (listed l)) _ a in
    let c = and_right (different (listed l)) _ b in
    let d = and_right (every (λ i. eqb i 0) (drop l.used l.ids)) (not (eqb w.current 0) || eqb l.used 0) c in
    let u = leb-true l.used 64 (and_left (leb l.used 64) _ e) in
    record {
      used = u;
      small = and_left (every (λ i. leb i 1023) (listed l)) _ a;
      once = and_left (different (listed l)) _ b;
      none = λ z. eqb-true _ _ (rw (eq-eqb w.current 0 z) at d);
      form = λ len. listed-form l len u (and_left (every (λ i. eqb i 0) (drop l.used l.ids)) (not (eqb w.current 0) || eqb l.used 0) c);
    }

-- ---- buffered postings

-- a buffered posting's identifier, window and count are within their limits
pub record PostingKept (w : Windows) (p : Posting) : Type 0 where
  pub id : p.id ≤ 1023
  pub some : 1 ≤ p.window
  pub given : p.window ≤ w.last
  pub counts : is_zero p.count ≡ false
  pub small : nat_abs p.count ≤ 32767
  pub own : p.window ≡ w.current → (1 ≤ above p.count) × (above p.count ≤ w.events)

-- what a buffered posting's rule says
pub posting-kept : (w : Windows) (p : Posting) → posting_rule w p ≡ true → PostingKept w p
unfolding posting_rule
posting-kept w p e =
    let own = not (eqb p.window w.current) || (leb 1 (above p.count) && leb (above p.count) w.events) in
    let a = and_right (leb p.id 1023) (leb 1 p.window && (leb p.window w.last && (not (is_zero p.count) && (leb (nat_abs p.count) 32767 && own)))) e in
    let b = and_right (leb 1 p.window) (leb p.window w.last && (not (is_zero p.count) && (leb (nat_abs p.count) 32767 && own))) a in
    let c = and_right (leb p.window w.last) (not (is_zero p.count) && (leb (nat_abs p.count) 32767 && own)) b in
    let d = and_right (not (is_zero p.count)) (leb (nat_abs p.count) 32767 && own) c in
    let f = and_right (leb (nat_abs p.count) 32767) own d in
    record {
      id = leb-true _ _ (and_left (leb p.id 1023) _ e);
      some = leb-true _ _ (and_left (leb 1 p.window) _ a);
      given = leb-true _ _ (and_left (leb p.window w.last) _ b);
      counts = not-true _ (and_left (not (is_zero p.count)) _ c);
      small = leb-true _ _ (and_left (leb (nat_abs p.count) 32767) _ d);
      own = λ s. let g : (leb 1 (above p.count) && leb (above p.count) w.events) ≡ true = rw (eq-eqb p.window w.current s) at f in
          (leb-true _ _ (and_left (leb 1 (above p.count)) _ g), leb-true _ _ (and_right (leb 1 (above p.count)) _ g));
    }

-- and back
pub posting-rule : (w : Windows) (p : Posting) → PostingKept w p → posting_rule w p ≡ true
unfolding posting_rule
posting-rule w p k =
    rw (le-leb _ _ k.id, le-leb _ _ k.some, le-leb _ _ k.given, k.counts, le-leb _ _ k.small)
    (by-test (eqb p.window w.current) (λ y. let o = k.own (eqb-true _ _ y) in rw (y, le-leb _ _ o.0, le-leb _ _ o.1)) (λ n. rw n))

-- at most 128 postings in order, each within its limits, and zeros after them
pub record BufferKept (w : Windows) (b : Buffer) : Type 0 where
  pub used : b.used ≤ 128
  pub order : ordered (buffered b) ≡ true
  pub rules : every (posting_rule w) (buffered b) ≡ true
  pub form : length b.postings ≡ 128 → b ≡ buffer_of (buffered b)

-- what the rule of the buffer says
pub buffer-kept : (w : Windows) (b : Buffer) → buffer_rule w b ≡ true → BufferKept w b
unfolding buffer_rule
buffer-kept w b e =
    let c = and_right (leb b.used 128) _ e in
    let d = and_right (ordered (buffered b)) _ c in
    let u = leb-true b.used 128 (and_left (leb b.used 128) _ e) in
    record {
      used = u;
      order = and_left (ordered (buffered b)) _ c;
      rules = and_left (every (posting_rule w) (buffered b)) _ d;
      form = λ len. buffer-form b len u (and_right (every (posting_rule w) (buffered b)) _ d);
    }

-- ---- finished partitions

-- a finished partition's level, length and windows are within their limits
pub record RecordKept (block_count : ℕ) (p : Partition) : Type 0 where
  pub level : p.level ≤ 5
  pub length : p.length ≤ 4092 * block_count
  pub some : 1 ≤ p.lowest
  pub span : p.lowest ≤ p.highest

-- what its rule says
pub record-kept : (block_count : ℕ) (p : Partition) → record_rule block_count p ≡ true → RecordKept block_count p
unfolding record_rule
record-kept n p e =
    let a = and_right (leb p.level 5) _ e in
    let b = and_right (leb p.length (4092 * n)) _ a in
    record {
      level = leb-true _ _ (and_left (leb p.level 5) _ e);
      length = leb-true _ _ (and_left (leb p.length (4092 * n)) _ a);
      some = leb-true _ _ (and_left (leb 1 p.lowest) _ b);
      span = leb-true _ _ (and_right (leb 1 p.lowest) _ b);
    }

-- and back
pub record-rule : (block_count : ℕ) (p : Partition) → RecordKept block_count p → record_rule block_count p ≡ true
unfolding record_rule
record-rule n p k = rw (le-leb _ _ k.level, le-leb _ _ k.length, le-leb _ _ k.some) (le-leb _ _ k.span)

-- at most 51 partitions within their limits, whose levels never rise, and zeros after them
pub record PartitionsKept (block_count : ℕ) (p : Partitions) : Type 0 where
  pub used : p.used ≤ 51
  pub rules : every (record_rule block_count) (finished p) ≡ true
  pub fall : never_rise (finished p) ≡ true
  pub limits : every (λ v. leb (of_level (λ q. q.level) v (finished p)) (level_limit v)) levels ≡ true
  pub form : length p.records ≡ 51 → p ≡ partitions_of (finished p)

-- what the rule of the partitions says
pub partitions-kept : (block_count : ℕ) (p : Partitions) → partitions_rule block_count p ≡ true → PartitionsKept block_count p
unfolding partitions_rule
partitions-kept n p e =
    let limits = every (λ v. leb (of_level (λ q. q.level) v (finished p)) (level_limit v)) levels in
    let clear = every unused_record (drop p.used p.records) in
    let a = and_right (leb p.used 51) (every (record_rule n) (finished p) && (never_rise (finished p) && (limits && clear))) e in
    let b = and_right (every (record_rule n) (finished p)) (never_rise (finished p) && (limits && clear)) a in
    let c = and_right (never_rise (finished p)) (limits && clear) b in
    let u = leb-true p.used 51 (and_left (leb p.used 51) _ e) in
    record {
      used = u;
      rules = and_left (every (record_rule n) (finished p)) _ a;
      fall = and_left (never_rise (finished p)) _ b;
      limits = and_left limits clear c;
      form = λ len. partitions-form p len u (and_right limits clear c);
    }

-- ---- the merge in progress

-- none, and then its record is zeros, or some steps are done, and then a level is due
pub record MergeKept (p : Partitions) (m : MergeJob) : Type 0 where
  pub none : m.steps ≡ 0 → m ≡ no_merge
  pub due : 1 ≤ m.steps → empty (due_levels (λ q. q.level) (finished p)) ≡ false

job_of : {i j v w a b : ℕ} → i ≡ j → v ≡ w → a ≡ b → ◌≡◌ {A = MergeJob} (record { first = i; length = v; steps = a }) (record { first = j; length = w; steps = b })
job_of p q r = cc

-- what the rule of the merge says
pub merge-kept : (p : Partitions) (m : MergeJob) → merge_rule p m ≡ true → MergeKept p m
unfolding merge_rule
merge-kept p m e = record {
  none = λ z. let f : (eqb m.first 0 && eqb m.length 0) ≡ true = rw (eq-eqb m.steps 0 z) at e in
      job_of (eqb-true _ _ (and_left (eqb m.first 0) _ f)) (eqb-true _ _ (and_right (eqb m.first 0) _ f)) z;
  due = λ h. not-true _ (rw (ne_eqb m.steps 0 (λ z. omega arith)) at e);
}

-- ---- the state

-- each rule by itself
pub record Rules (s : State) : Type 0 where
  pub lengths : lengths_rule s.lengths ≡ true
  pub windows : windows_rule s.windows ≡ true
  pub listed : listed_rule s.windows s.listed ≡ true
  pub buffer : buffer_rule s.windows s.buffer ≡ true
  pub partitions : partitions_rule (blocks s) s.partitions ≡ true
  pub taken : s.taken < blocks s
  pub merge : merge_rule s.partitions s.merge ≡ true

-- the state's rule taken apart
pub rules-of : (s : State) → state_rule s ≡ true → Rules s
unfolding state_rule
rules-of s e =
    let a = and_right (lengths_rule s.lengths) _ e in
    let b = and_right (windows_rule s.windows) _ a in
    let c = and_right (listed_rule s.windows s.listed) _ b in
    let d = and_right (buffer_rule s.windows s.buffer) _ c in
    let f = and_right (partitions_rule (blocks s) s.partitions) _ d in
    record {
      lengths = and_left (lengths_rule s.lengths) _ e;
      windows = and_left (windows_rule s.windows) _ a;
      listed = and_left (listed_rule s.windows s.listed) _ b;
      buffer = and_left (buffer_rule s.windows s.buffer) _ c;
      partitions = and_left (partitions_rule (blocks s) s.partitions) _ d;
      taken = ltb-true _ _ (and_left (ltb s.taken (blocks s)) _ f);
      merge = and_right (ltb s.taken (blocks s)) _ f;
    }

-- and back
pub state-rule : (s : State) → Rules s → state_rule s ≡ true
unfolding state_rule
state-rule s r = rw (r.lengths, r.windows, r.listed, r.buffer, r.partitions, lt-ltb s.taken (blocks s) r.taken) r.merge

-- every plain fact of a state that keeps the rules
pub record Kept (s : State) : Type 0 where
  pub lengths : LengthsKept s.lengths
  pub windows : WindowsKept s.windows
  pub listed : ListedKept s.windows s.listed
  pub buffer : BufferKept s.windows s.buffer
  pub partitions : PartitionsKept (blocks s) s.partitions
  pub taken : s.taken < blocks s
  pub merge : MergeKept s.partitions s.merge

-- what the state's rule says
pub state-kept : (s : State) → state_rule s ≡ true → Kept s
state-kept s e =
    let r = rules-of s e in
    record {
      lengths = lengths-kept s.lengths r.lengths;
      windows = windows-kept s.windows r.windows;
      listed = listed_kept s.windows s.listed r.listed;
      buffer = buffer-kept s.windows s.buffer r.buffer;
      partitions = partitions-kept (blocks s) s.partitions r.partitions;
      taken = r.taken;
      merge = merge-kept s.partitions s.merge r.merge;
    }
