-- The measure of the cycle of calls element, list of `table::form`: two for each level. The elements that are still to come, from where
-- reading goes on, are the list's.
use Rattle.std.proofs.Common.{◌≡◌, ◌+◌, ◌-◌, ◌*◌}
use Rattle.table.specs.Cursor.{list_at}
use Rattle.table.proofs.form.+element_list.Given as goal

abbrev pub decreases-element : goal.decreases-element
decreases-element l = l.depth * 2

abbrev pub decreases-list : goal.decreases-list
decreases-list l = l.depth * 2 + 1

abbrev pub invariant-list-loop : goal.invariant-list-loop
invariant-list-loop l =
    list_at l.s l.depth (l.count - l.counter) l.next.at l.next.left ≡ list_at l.s l.depth l.count l.fn.from.at l.fn.from.left
