-- Document 01's wrong program 'a library that refuses everything', one operation at a time: whatever keeps the refusals of an operation
-- does not refuse every call of it. The states are those that calls lead to; what is done in a made-up one does not help.
--
--   Responder          anything that answers a call in a state, and leaves a state
--   Operation          the operations that calls are of
--   operation_of c      the one that c is of
--   OfCalls o P        P holds of every state that calls lead to, whatever its arrays had in them at first, and every call of the operation o
--   KeepsRefusals o L  L refuses each call of the operation by the first of its tests that holds, exactly then, and then leaves the state
--   RefusesEach o L    L refuses every call of the operation
--   RefusersFail       whatever the operation, nothing does both
--   SomeKeepsRefusals  there is a library that keeps the refusals of all of them: the definitions' own
--   Encoder            anything that answers a unit for AL1M to send, and leaves octets where it was lent some
--   OfOctets P         P holds of every width, e, unit of octets and lent octets
--   EncodersFail       one that keeps the refusals of AL1M's sending, as each that keeps its promise does (`encoding` of demand 1), does
--                      not refuse every unit of octets. (Of receiving, specs/Wrong.antt says so.)
--
-- proofs/Answering.antt proves all three.
-- Assumes nothing.
use Rattle.std.specs.Prelude.{◌≡◌, List, ℕ, length}
use Rattle.calls.specs.Refusal.{refused, Ended, Refuses}
use Rattle.codeword.specs.CodeWord.{Octets}
use Rattle.adaptation.specs.Sending.{encode_tests}
use Rattle.channels.specs.Channels.{all_octets}
use Rattle.multiplex.specs.Calls.{Link, Call, Answer, tests_of, led, begun}
use Rattle.multiplex.specs.Calls as calls

-- ---- the calls of an end

abbrev pub Responder : Type 0
Responder = Link → Call → Ended Answer Link

pub data Operation : Type 0 where
  opening : Operation
  closing : Operation
  resetting : Operation
  posting : Operation
  replacing : Operation
  demultiplexing : Operation
  multiplexing : Operation
  sending : Operation
  taking : Operation

abbrev pub operation_of : Call → Operation
operation_of (calls.opening n g) = opening
operation_of (calls.closing n) = closing
operation_of (calls.resetting n) = resetting
operation_of (calls.posting n u) = posting
operation_of (calls.replacing c s) = replacing
operation_of (calls.demultiplexing c mark xs output units) = demultiplexing
operation_of (calls.multiplexing c room payload) = multiplexing
operation_of (calls.sending n numbered u output) = sending
operation_of (calls.taking n numbered w) = taking

abbrev pub OfCalls : Operation → (Link → Call → Type 0) → Type 0
OfCalls o P =
    (h w : List ℕ) → length h ≡ all_octets → length w ≡ all_octets → (cs : List Call) (c : Call) → operation_of c ≡ o → P (led (begun h w) cs) c

abbrev pub KeepsRefusals : Operation → Responder → Type 0
KeepsRefusals o L = OfCalls o (λ x c. Refuses (L x c) (tests_of x c) x)

abbrev pub RefusesEach : Operation → Responder → Type 0
RefusesEach o L = OfCalls o (λ x c. (k : ℕ) × ((L x c).answer ≡ refused k))

abbrev pub RefusersFail : Type 0
RefusersFail = (o : Operation) (L : Responder) → KeepsRefusals o L → RefusesEach o L → ⊥

abbrev pub SomeKeepsRefusals : Type 0
SomeKeepsRefusals = (L : Responder) × ((o : Operation) → KeepsRefusals o L)

-- ---- AL1M's sending, in which no end's state has a part

abbrev pub Encoder : Type 0
Encoder = (width e : ℕ) → (unit lent : List ℕ) → Ended ℕ (List ℕ)

abbrev pub OfOctets : ((width e : ℕ) → (unit lent : List ℕ) → Type 0) → Type 0
OfOctets P = (b e : ℕ) (u before : List ℕ) → Octets u → Octets before → P b e u before

abbrev pub EncodersFail : Type 0
EncodersFail =
    (E : Encoder) → OfOctets (λ b e u before. Refuses (E b e u before) (encode_tests (length u) b e (length before)) before)
    → OfOctets (λ b e u before. (k : ℕ) × ((E b e u before).answer ≡ refused k)) → ⊥
