-- An element is a channel's slot, nothing where its list is too deep, or the passes of its list; a loop goes on with what is left to lay.
use Rattle.std.proofs.Common.{◌+◌, ◌-◌, refl, arith}
use Rattle.table.specs.Cursor.{skip}
use Rattle.table.specs.Slots.{copies}
use Rattle.table.specs.Lays.{element_slots, list_slots}
use Rattle.table.proofs.Expanding.{element-slots_filled, list-slots_filled}
use Rattle.table.proofs.Laying.{lays_empty, onward_turn, onward_done, onward_idle}
use Rattle.table.proofs.Passing.{as-channel, as_flat, as_inner, list_rest, list_done, list_idle, copies_rest, copies_done, copies_idle}
use Rattle.table.proofs.walk.Laying.+laying.Goals as goal

pub element-returns-then-count-eq0 : goal.element-returns-then-count-eq0
element-returns-then-count-eq0 t c =
    let a = c.args in
    rw (as-channel a.s.now a.at a.depth _ _ _ c.number.ensures c.times-n.ensures c.number-count.ensures _ c.number-then-count-eq0.ensures
    c.if-count-eq0.true) c.slot.ensures

pub element-returns-then-depth-gt0 : goal.element-returns-then-depth-gt0
element-returns-then-depth-gt0 t c =
    let a = c.args in
    rw (as_inner a.s.now a.at a.depth _ _ _ c.number.ensures c.times-n.ensures c.number-count.ensures c.if-count-eq0.false
    (λ z. omega arith)) c.passes.ensures

pub element-returns-else-depth-gt0 : goal.element-returns-else-depth-gt0
element-returns-else-depth-gt0 t c =
    let a = c.args in
    let s = a.self.now in
    record {
      lays = lays_empty s.laid (element_slots a.s.now a.depth a.at) s.channels.now s.lengths.now
          (as_flat a.s.now a.at a.depth _ _ _ c.number.ensures c.times-n.ensures c.number-count.ensures c.if-count-eq0.false (omega arith));
      same_channels = refl;
      same_lengths = refl;
    }

pub list-returns-then-self-left : goal.list-returns-then-self-left
list-returns-then-self-left t c =
    let a = c.args in
    let l = c.loop in
    let s = a.s.now in
    onward_idle l.invariant (element_slots s a.depth l.place) (list_slots s a.depth (a.count - (l.counter + 1)) (skip s a.depth l.place))
    (element-slots_filled s a.depth l.place) c.element.ensures
    (list_rest a.count l.counter s a.depth l.place _ refl (omega arith)) (list_idle s a.depth (a.count - (l.counter + 1)) l.place)
    c.if-self-left.true

pub list-loop-preserved : goal.list-loop-preserved
list-loop-preserved t c =
    let a = c.args in
    let l = c.loop in
    let s = a.s.now in
    onward_turn l.invariant (element_slots s a.depth l.place) (list_slots s a.depth (a.count - (l.counter + 1)) c.after-place.result)
    (element-slots_filled s a.depth l.place) c.element.ensures
    (list_rest a.count l.counter s a.depth l.place _ c.after-place.ensures (omega arith))

pub list-returns : goal.list-returns
list-returns t c =
    let a = c.args in
    let l = c.loop in
    onward_done l.invariant (list_done a.count l.counter a.s.now a.depth l.place (omega arith))

pub passes-returns-then-self-left : goal.passes-returns-then-self-left
passes-returns-then-self-left t c =
    let a = c.args in
    let l = c.loop in
    let x = list_slots a.s.now a.depth a.count a.at in
    onward_idle l.invariant x (copies (a.n - (l.counter + 1)) x) (list-slots_filled a.s.now a.depth a.count a.at) c.list.ensures
    (copies_rest a.n l.counter x (omega arith)) (copies_idle (a.n - (l.counter + 1)) x) c.if-self-left.true

pub passes-loop-preserved : goal.passes-loop-preserved
passes-loop-preserved t c =
    let a = c.args in
    let l = c.loop in
    let x = list_slots a.s.now a.depth a.count a.at in
    onward_turn l.invariant x (copies (a.n - (l.counter + 1)) x) (list-slots_filled a.s.now a.depth a.count a.at) c.list.ensures
    (copies_rest a.n l.counter x (omega arith))

pub passes-returns : goal.passes-returns
passes-returns t c =
    let a = c.args in
    let l = c.loop in
    onward_done l.invariant (copies_done a.n l.counter (list_slots a.s.now a.depth a.count a.at) (omega arith))
