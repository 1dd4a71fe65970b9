-- `images::image_ok` meets its contract. The invariant: the places before `at` are tested.
use Rattle.lists.proofs.Prelude.{◌≡◌, ◌-◌, every, rising}
use Rattle.words.specs.Words.{words}
use Rattle.images.specs.Images.{fits, image_rule}
use Rattle.images.proofs.image_ok.Given as goal

abbrev pub invariant-loop-at : goal.invariant-loop-at
invariant-loop-at l = image_rule l.image ≡ every (fits (words l.image)) (rising l.at (716 - l.at))
