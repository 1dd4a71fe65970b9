-- That a query whose hits fill the lent list gives what the query is.
use Rattle.std.specs.Prelude.{Result, Ok, Err}
use Rattle.answers.specs.declared.Refusal.{Refusal}
use Rattle.lists.proofs.Prelude.{List, ◌≡◌, refl, sym, ap, ◌∙◌, ℕ, ◌≤◌, arith, length, take, drop, take_at, take-append_seam}
use Rattle.postings.specs.declared.Stretch.{Stretch}
use Rattle.answers.specs.Answers.{Answer, hits}
use Rattle.answers.specs.Numbers.{found_as}
use Rattle.answers.specs.declared.Found.{Found}
use Rattle.answers.specs.declared.Hit.{Hit}
use Rattle.state.specs.Probe.{Probe}
use Rattle.identifiers.specs.Names.{Name}
use Rattle.windows.specs.Promises.{Gives}
use Rattle.ranking.specs.declared.Top.{Top}
use Rattle.queries.specs.Query.{fill, query_of}
use Rattle.ranking.specs.Top.{listed_hits, top_of}
use Rattle.queries.specs.Finds.{hits_in, answered, Finds}
use Rattle.queries.proofs.Outcomes.{found-filled}
use Rattle.hits.specs.Lent.{hit_count}

-- the count of used places is the number of hits
used-listed : (t : Top) (l : List Hit) → t ≡ top_of l → length (listed_hits t) ≡ t.used
used-listed t l e = ap (λ (x : Top). length (listed_hits x)) e ∙ ap length (take-append_seam l _) ∙ sym (ap (λ (x : Top). x.used) e)

-- the hits of an answer are the same, read from the filled list
same-hits : (x : Answer) (k : ℕ) (places : List Hit) (a : Result Found Refusal) (t : Top) → Finds x k a t → found_as a (fill (listed_hits t) places) ≡ found_as a t.hits
same-hits x k places (Ok f) t v =
    let e : f.hits ≡ t.used = v.used f refl in
    let l : length (listed_hits t) ≡ f.hits = used-listed t (hits_in x) v.kept ∙ sym e in
    ap (λ (hs : List Hit). hits hs f.taken) (take_at (listed_hits t) (drop (length (listed_hits t)) places) f.hits l ∙ ap (λ (m : ℕ). take m t.hits) (sym e))
same-hits x k places (Err why) t v = refl

-- what the search finds for as many places, and a list filled with it, are what the query gives
pub found-given : (p : Probe) (st : Stretch) (ns : List Name) (places : List Hit) (a : Result Found Refusal) (t : Top) (after : List Hit) → Finds (answered p st ns (length places)) (length places) a t → after ≡ fill (listed_hits t) places
    → Gives places (query_of p st ns places) (found_as a after) after
found-given p st ns places a t after v e =
    let both = found-filled p st ns places a t v in
    record { answer = ap (found_as a) e ∙ same-hits _ (length places) places a t v ∙ both.0; left = e ∙ both.1 }

-- an answer says no more hits than there are places
pub found-counted : (x : Answer) (k : ℕ) (a : Result Found Refusal) (t : Top) → Finds x k a t → hit_count a ≤ k
found-counted x k (Ok f) t v = let e : f.hits ≡ t.used = v.used f refl in omega (arith, e, v.fits)
found-counted x k (Err why) t v = omega arith
