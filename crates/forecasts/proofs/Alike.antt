-- Plans followed on two things that stay alike are told alike.
use Rattle.lists.proofs.Prelude.{cond, List, [], ◌∷◌, ◌≡◌, ap, ap₂, ◌∙◌, ℕ, suc, ltb}
use Rattle.answers.specs.Answers.{Answer, forecast, halted, never, Outcome, refuse, leave, after}
use Rattle.forecasts.specs.Plan.{Planned, Placed}
use Rattle.forecasts.specs.Course.{Gauge, told, writes, follow}

-- both refuse with one number, or both are done and what they leave is related
pub data Agree {S T : Type 0} (R : S → T → Type 0) : Outcome S → Outcome T → Type 0 where
  both_refuse : {n : ℕ} → Agree R (refuse n) (refuse n)
  both_leave : {x y : Answer} {s : S} {t : T} → R s t → Agree R (leave x s) (leave y t)

-- the same is read off
pub record Level {S T : Type 0} (g : Gauge S) (h : Gauge T) (s : S) (t : T) : Type 0 where
  pub low : g.low s ≡ h.low t
  pub blocks : g.blocks s ≡ h.blocks t
  pub entries : g.entries s ≡ h.entries t

module _ {S T : Type 0} (g : Gauge S) (h : Gauge T) (f : S → Planned → Outcome S) (k : T → Planned → Outcome T) (R : S → T → Type 0)
    (level : (s : S) (t : T) → R s t → Level g h s t) (alike : (s : S) (t : T) → R s t → (c : Planned) → Agree R (f s c) (k t c)) where
  pub follow-same : (cs : List Placed) (n : ℕ) (s : S) (t : T) → R s t → follow g f n s cs ≡ follow h k n t cs
  unfolding follow after
  follow-same [] n s t r = let l = level s t r in ap₂ (λ b m. forecast n b m never) l.blocks l.entries
  follow-same (c ∷ cs) n s t r = go (f s c.call) (k t c.call) (alike s t r c.call) (λ u v r'. follow-same cs (writes h k t v n) u v r')
    where
      go : (o : Outcome S) (q : Outcome T) → Agree R o q
          → ((u : S) (v : T) → R u v → follow g f (writes h k t v n) u cs ≡ follow h k (writes h k t v n) v cs)
          → after o (λ m. told g f n s (halted c.window c.event m)) (λ u. follow g f (writes g f s u n) u cs)
          ≡ after q (λ m. told h k n t (halted c.window c.event m)) (λ v. follow h k (writes h k t v n) v cs)
      go o q (both_refuse {n = m}) next = let l = level s t r in ap₂ (λ b e. forecast n b e (halted c.window c.event m)) l.blocks l.entries
      go o q (both_leave {s = u} {t = v} r') next =
          ap (λ i. follow g f i u cs) (ap₂ (λ a b. cond (ltb a b) (suc n) n) (level s t r).low (level u v r').low) ∙ next u v r'
