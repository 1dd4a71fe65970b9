-- `terms::judging::judge` meets its contract. The invariant: the answer is the answer where `windows` count `total` and the heads have windows below `bound`
-- to come.
use Rattle.lists.proofs.Prelude.{Bool, ◌≡◌, ℕ, ◌≤◌, ◌+◌, ◌*◌, length}
use Rattle.words.specs.Words.{words}
use Rattle.state.specs.Shown.{shows_in}
use Rattle.keyed.specs.Groups.{top_all}
use Rattle.kway.specs.Leads.{Leads}
use Rattle.heads.specs.Heads.{views}
use Rattle.terms.specs.Both.{Ready, both}
use Rattle.terms.specs.Judged.{told_of}
use Rattle.terms.proofs.Steps.{resume}
use Rattle.terms.proofs.judging.judge.Given as goal

-- the windows that show
abbrev pub seen : ℕ → ℕ → ℕ → ℕ → Bool
seen f l o w = shows_in (record { first = f; last = l }) o w

abbrev pub invariant-loop-top : goal.invariant-loop-top
invariant-loop-top l =
    (length l.heads ≡ length l.initial.heads) × Ready (words l.card) l.run l.n l.heads × (l.top ≡ top_all 0 (both (words l.card) l.run l.n l.heads)) × Leads (views (words l.card) l.run l.n l.heads) l.at l.others
    × ((l.windows + l.bound ≤ 65536) × (l.total ≤ 32767 * l.windows))
    × (told_of (seen l.first l.last l.current) (both (words l.card) l.run l.n l.initial.heads) ≡ resume (seen l.first l.last l.current) l.bound l.windows l.total (both (words l.card) l.run l.n l.heads))

abbrev pub decreases-loop-top : goal.decreases-loop-top
decreases-loop-top l = l.bound
