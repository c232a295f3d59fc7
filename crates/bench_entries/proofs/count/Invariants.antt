-- `bench_entries::count` counts no round twice.
use Rattle.std.proofs.Common.{◌≤◌}
use Rattle.bench_entries.proofs.count.Given as goal

abbrev pub invariant-loop : goal.invariant-loop
invariant-loop g l = goal.F-IsAlwaysCallable g l.succeeds × (l.n ≤ l.counter)
