-- Which windows show. An open window is no result yet: N, F and the hits of a query leave it out, wherever its counts are stored.
use Rattle.std.specs.Prelude.{Bool, ◌&&◌, not, List, ℕ, eqb, leb}
use Rattle.lists.specs.Lists.{keep, down}
use Rattle.postings.specs.declared.Stretch.{Stretch}
use Rattle.state.specs.declared.Windows.{Windows}

-- does the window w show, where o is the open window's number, or 0 for none
abbrev pub shows : ℕ → ℕ → Bool
shows o w = not (eqb w o)

-- does the window w lie in the stretch t
abbrev pub within : Stretch → ℕ → Bool
within t w = leb t.first w && leb w t.last

-- does it show there
abbrev pub shows_in : Stretch → ℕ → ℕ → Bool
shows_in t o w = within t w && shows o w

-- the windows that show, from the highest number down: all but the open one. A foreign card may have windows above the last number given, which are closed ones
unfoldable pub shown : Windows → List ℕ
shown v = keep (shows v.current) (down 65535)

-- those of a stretch
unfoldable pub shown_in : Stretch → Windows → List ℕ
shown_in t v = keep (shows_in t v.current) (down 65535)
