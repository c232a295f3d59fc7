-- Any calls in any order: what each answers, and the state that it leaves. The definitions of the calls are total: they say what is
-- answered in any state, a made-up one too. That no call leads to a made-up one is claimed here as well.
--
--   Link             one end's whole state: the channels, the octets held, the octets that wait, and the table
--   with x s         .. with other channels
--   Call             any call: what it names and what it is lent
--   Answer           what a call answers that is not refused, with what it leaves of what it was lent
--   telling t f      an answer made of what a call tells
--   Demultiplexer    what may stand for the demultiplexer
--   Multiplexer      .. and for the multiplexer
--   Library          both
--   ours             ours
--   called_by L x c   how the call c ends in state x, where L is the library
--   called x c       .. where it is ours
--   tests_of x c      what refuses the call c in state x
--   led x cs         the state after one call behind another; a refused one leaves it
--   begun h w        the state at first, with any octets in its arrays
--   Sound x          the channels are as they must be: channel 0 open and segmentable, none open twice, nothing at a free place, all within
--                    their bounds; and the table has its length, and an entry's numbers at each code that is defined
--   AlwaysSound      whatever is called, the state is sound; proofs/Bounds.antt proves it
--
-- Assumes nothing.
use Rattle.std.specs.Prelude.{◌≡◌, Bool, List, [], ◌∷◌, ℕ, length, replicate}
use Rattle.calls.specs.Refusal.{Told, refused, told, Ended, ended, Test}
use Rattle.adaptation.specs.AL2.{Receipt}
use Rattle.table.specs.Table.{table_numbers, Entries, replace_tests, replaced}
use Rattle.channels.specs.declared.Channels.{Channels}
use Rattle.channels.specs.Channels.{all_octets, start, open_tests, close_tests, reset_tests, post_tests, opened, closed, reset, posted}
use Rattle.channels.specs.Layers as layers
use Rattle.channels.specs.Claims.{Bounded}
use Rattle.multiplex.specs.Demultiplexer.{DemuxLent, demultiplex_tests, demultiplexed}
use Rattle.multiplex.specs.declared.multiplexer.Payload.{Payload}
use Rattle.multiplex.specs.Multiplexer.{MuxLent, multiplex_tests, multiplexed}

pub record Link : Type 0 where
  pub channels : Channels
  pub held : List ℕ
  pub waiting : List ℕ
  pub table : List ℕ

abbrev pub with : Link → Channels → Link
with x s = record { channels = s; held = x.held; waiting = x.waiting; table = x.table }

pub data Call : Type 0 where
  opening : (n : ℕ) → (segmentable : Bool) → Call
  closing : (n : ℕ) → Call
  resetting : (n : ℕ) → Call
  posting : (n : ℕ) → (unit : List ℕ) → Call
  replacing : (code : ℕ) → (entry : List ℕ) → Call
  demultiplexing : (code : ℕ) → (mark : Bool) → (payload output units : List ℕ) → Call
  multiplexing : (code room : ℕ) → (payload : List ℕ) → Call
  sending : (n : ℕ) → (numbered : Bool) → (unit output : List ℕ) → Call
  taking : (n : ℕ) → (numbered : Bool) → (whole : List ℕ) → Call

pub data Answer : Type 0 where
  done : Answer
  finished : (count : ℕ) → (output units : List ℕ) → Answer
  made : Payload → (payload : List ℕ) → Answer
  sent : (octets : ℕ) → (output : List ℕ) → Answer
  taken : Receipt → Answer

abbrev pub telling : {A : Type 0} → Told A → (A → Answer) → Told Answer
telling (refused k) f = refused k
telling (told a) f = told (f a)

abbrev pub Demultiplexer : Type 0
Demultiplexer = DemuxLent → (table : List ℕ) → (code : ℕ) → (mark : Bool) → List ℕ → Ended ℕ DemuxLent

abbrev pub Multiplexer : Type 0
Multiplexer = MuxLent → (waiting table : List ℕ) → (code room : ℕ) → Ended Payload MuxLent

pub record Library : Type 0 where
  pub demultiplexer : Demultiplexer
  pub multiplexer : Multiplexer

abbrev pub ours : Library
ours = record { demultiplexer = demultiplexed; multiplexer = multiplexed }

unfoldable pub called_by : Library → Link → Call → Ended Answer Link
called_by L x (opening n g) = let r = opened x.channels n g in ended (telling r.answer (λ u. done)) (with x r.left)
called_by L x (closing n) = let r = closed x.channels n in ended (telling r.answer (λ u. done)) (with x r.left)
called_by L x (resetting n) = let r = reset x.channels n in ended (telling r.answer (λ u. done)) (with x r.left)
called_by L x (posting n u) =
    let r = posted x.channels x.waiting n u in
    ended (telling r.answer (λ t. done)) (record { channels = r.left.channels; held = x.held; waiting = r.left.octets; table = x.table })
called_by L x (replacing c s) =
    let r = replaced x.table c s in
    ended (telling r.answer (λ u. done)) (record { channels = x.channels; held = x.held; waiting = x.waiting; table = r.left })
called_by L x (demultiplexing c mark xs output units) =
    let r = L.demultiplexer (record { channels = x.channels; held = x.held; output = output; units = units }) x.table c mark xs in
    ended (telling r.answer (λ k. finished k r.left.output r.left.units))
    (record { channels = r.left.channels; held = r.left.held; waiting = x.waiting; table = x.table })
called_by L x (multiplexing c room payload) =
    let r = L.multiplexer (record { channels = x.channels; payload = payload }) x.waiting x.table c room in
    ended (telling r.answer (λ p. made p r.left.payload)) (with x r.left.channels)
called_by L x (sending n numbered u output) =
    let r = layers.sending (record { channels = x.channels; output = output }) n numbered u in
    ended (telling r.answer (λ k. sent k r.left.output)) (with x r.left.channels)
called_by L x (taking n numbered w) =
    let r = layers.taking x.channels n numbered w in ended (telling r.answer taken) (with x r.left)

abbrev pub called : Link → Call → Ended Answer Link
called = called_by ours

abbrev pub tests_of : Link → Call → List Test
tests_of x (opening n g) = open_tests x.channels n
tests_of x (closing n) = close_tests x.channels n
tests_of x (resetting n) = reset_tests x.channels n
tests_of x (posting n u) = post_tests x.channels n u
tests_of x (replacing c s) = replace_tests c s
tests_of x (demultiplexing c mark xs output units) =
    demultiplex_tests (record { channels = x.channels; held = x.held; output = output; units = units }) x.table c mark xs
tests_of x (multiplexing c room payload) = multiplex_tests (record { channels = x.channels; payload = payload }) x.table c room
tests_of x (sending n numbered u output) = layers.sending_tests (record { channels = x.channels; output = output }) n numbered u
tests_of x (taking n numbered w) = layers.taking_tests x.channels n numbered w

unfoldable pub led : Link → List Call → Link
led x [] = x
led x (c ∷ cs) = led (called x c).left cs

abbrev pub begun : (held waiting : List ℕ) → Link
begun h w = record { channels = start; held = h; waiting = w; table = replicate table_numbers 0 }

pub record Sound (x : Link) : Type 0 where
  pub bounded : Bounded x.channels x.held x.waiting
  pub entries : Entries x.table

abbrev pub AlwaysSound : Type 0
AlwaysSound = (h w : List ℕ) → length h ≡ all_octets → length w ≡ all_octets → (cs : List Call) → Sound (led (begun h w) cs)
