-- What a query of a stretch of windows reads.
use Rattle.std.specs.Prelude.{Bool, ◌&&◌, leb}
use Rattle.lists.specs.Lists.{keep}
use Rattle.postings.specs.declared.Stretch.{Stretch}
use Rattle.state.specs.declared.Partition.{Partition}
use Rattle.state.specs.declared.State.{State}
use Rattle.state.specs.Views.{no_merge, finished, partitions_of, with_partitions, with_merge}

-- is a partition not wholly outside the stretch: its highest window is not below the first, nor its lowest above the last
abbrev pub reaches : Stretch → Partition → Bool
reaches t p = leb t.first p.highest && leb p.lowest t.last

-- the state as a query of the stretch reads it: the partitions wholly outside are passed over, the buffer never is. The merge in progress is none of its matter
abbrev pub read_by : Stretch → State → State
read_by t s = with_merge (with_partitions s (partitions_of (keep (reaches t) (finished s.partitions)))) no_merge

-- from the first window to the last that there can be
abbrev pub whole : Stretch
whole = record { first = 1; last = 65535 }
