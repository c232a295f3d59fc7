-- What is bad is told before anything is written. After n turns the first n octets stand, and pairs stand behind theirs.
use Rattle.std.proofs.Common.{◌≡◌, true, ◌*◌, drop}
use Rattle.octets.specs.Written.{Writing}
use Rattle.text.specs.Hex.{is_hex, octets_of}
use Rattle.text.proofs.hex.decode.Given as goal

abbrev pub invariant-loop-n : goal.invariant-loop-n
invariant-loop-n l = Writing l.initial.out 0 (octets_of l.text) l.out l.n × (is_hex (drop (2 * l.n) l.text) ≡ true)
