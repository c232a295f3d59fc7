-- The cycle of calls by which elements and lists are laid down. Under an inner list lie the passes of it, under those its elements.
use Rattle.std.proofs.Common.{◌+◌, ◌-◌, ◌*◌}
use Rattle.table.specs.Slots.{copies}
use Rattle.table.specs.Lays.{list_slots}
use Rattle.table.proofs.Laying.{Onward}
use Rattle.table.proofs.walk.Laying.+laying.Given as goal

abbrev pub decreases-element : goal.decreases-element
decreases-element l = l.depth * 3

abbrev pub decreases-list : goal.decreases-list
decreases-list l = l.depth * 3 + 1

abbrev pub decreases-passes : goal.decreases-passes
decreases-passes l = l.depth * 3 + 2

abbrev pub invariant-list-loop : goal.invariant-list-loop
invariant-list-loop l =
    Onward l.initial.self (list_slots l.s l.depth l.count l.at) l.self (list_slots l.s l.depth (l.count - l.counter) l.place)

abbrev pub invariant-passes-loop : goal.invariant-passes-loop
invariant-passes-loop l =
    Onward l.initial.self (copies l.n (list_slots l.s l.depth l.count l.at)) l.self (copies (l.n - l.counter) (list_slots l.s l.depth l.count l.at))
