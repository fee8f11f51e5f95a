-- The kernel calls: which one the registers ask for, and which is refused. This project's own, by the calling convention of RISC-V: the
-- number of the call is in a7 (x17), its operands are in a0 and a1 (x10 and x11).
use Rattle.std.specs.Prelude.{ℕ, ℤ, negsuc, ◌+◌, ◌*◌, ◌%◌, Bool, true, false, not, ◌&&◌, ◌==◌, nat_lt, nat_le, List, [], ◌∷◌, length, slice_get, Option, None, Some, if◌then◌else◌}
use Rattle.std.specs.Int.{bit_at}
use Rattle.std.specs.List.{list_any, range_with_len}
use Rattle.em_base.specs.declared.tables.Kind.{Kind}
use Rattle.em_base.specs.declared.tables.Kind.TheVariants.{Timer, Line, Background}
use Rattle.em_base.specs.declared.tables.MsgRow.{MsgRow}
use Rattle.em_base.specs.declared.tables.Table.{Table}
use Rattle.em_base.specs.declared.tables.TaskRow.{TaskRow}
use Rattle.em_hart.specs.Hart.{Registers, register, own_base}
use Rattle.em_gate.specs.declared.calls.Call.{Call}
use Rattle.em_gate.specs.declared.calls.Call.TheVariants.{WaitJob, Acquire, Release, Out, Write, Read, Signal, Exit, Unknown}
use Rattle.em_gate.specs.declared.calls.Facts.{Facts}

-- ---- the call

abbrev pub call_number : Registers → ℕ
call_number registers = register registers 17

abbrev pub first_operand : Registers → ℕ
first_operand registers = register registers 10

abbrev pub second_operand : Registers → ℕ
second_operand registers = register registers 11

-- the call of a number with two operands
abbrev pub call_by : ℕ → ℕ → ℕ → Call
call_by number a b =
    if number == 1 then WaitJob
    else if number == 2 then Acquire a
    else if number == 3 then Release a
    else if number == 4 then Out a b
    else if number == 5 then Write a b
    else if number == 6 then Read a b
    else if number == 7 then Signal a b
    else if number == 8 then Exit
    else Unknown number

-- the call that the registers ask for
abbrev pub call_of : Registers → Call
call_of registers = call_by (call_number registers) (first_operand registers) (second_operand registers)

-- ---- the codes of refusals

-- the number is no call
abbrev pub E_CALL : ℤ
E_CALL = negsuc 0

-- there is no semaphore, port, message or task of this number
abbrev pub E_ARG : ℤ
E_ARG = negsuc 1

-- the task doesn't declare that it uses the semaphore
abbrev pub E_USE : ℤ
E_USE = negsuc 2

-- the task owns a semaphore and may not take another
abbrev pub E_NEST : ℤ
E_NEST = negsuc 3

-- the task doesn't own the semaphore
abbrev pub E_OWNER : ℤ
E_OWNER = negsuc 4

-- the task owns a semaphore
abbrev pub E_HELD : ℤ
E_HELD = negsuc 5

-- the port is unplugged
abbrev pub E_PORT : ℤ
E_PORT = negsuc 6

-- the address isn't a multiple of 4, or the words aren't wholly in the own window
abbrev pub E_ADDR : ℤ
E_ADDR = negsuc 7

-- the task takes no release
abbrev pub E_FULL : ℤ
E_FULL = negsuc 8

-- the task isn't the writer, or not a reader, of the message; or the other task isn't a background task
abbrev pub E_ROLE : ℤ
E_ROLE = negsuc 9

-- ---- what a refusal rests on

-- what is known beside the table: the semaphores that the task owns, the ports that are plugged in, the tasks that take no release
pub record Known : Type 0 where
  pub owns : ℕ → Bool
  pub plugged : ℕ → Bool
  pub full : ℕ → Bool

-- what bits say
abbrev pub has_bit : ℕ → ℕ → Bool
has_bit bits i = bit_at bits i == 1

abbrev pub known_by : Facts → Known
known_by facts = record { owns = has_bit facts.owned; plugged = has_bit facts.plugged; full = has_bit facts.full }

-- the most semaphores
abbrev pub most_semaphores : ℕ
most_semaphores = 32

-- the task owns a semaphore
abbrev pub owns_any : Known → Bool
owns_any known = list_any known.owns (range_with_len 0 most_semaphores)

-- ---- what the table says

abbrev pub has_use : Option TaskRow → ℕ → Bool
has_use None s = false
has_use (Some row) s = list_any (λ sem. sem.0 == s) row.uses

-- the task t declares that it uses the semaphore
abbrev pub uses : Table → ℕ → ℕ → Bool
uses table t s = has_use (slice_get table.tasks t) s

abbrev pub is_background_kind : Kind → Bool
is_background_kind Timer = false
is_background_kind Line = false
is_background_kind Background = true

abbrev pub is_background_row : Option TaskRow → Bool
is_background_row None = false
is_background_row (Some row) = is_background_kind row.kind

abbrev pub is_background : Table → ℕ → Bool
is_background table t = is_background_row (slice_get table.tasks t)

abbrev pub has_writer : Option MsgRow → ℕ → Bool
has_writer None t = false
has_writer (Some row) t = row.writer.0 == t

-- the task t is the writer of the message
abbrev pub writes : Table → ℕ → ℕ → Bool
writes table t m = has_writer (slice_get table.messages m) t

abbrev pub has_reader : Option MsgRow → ℕ → Bool
has_reader None t = false
has_reader (Some row) t = list_any (λ reader. reader.0 == t) row.readers

-- the task t is a reader of the message
abbrev pub reads : Table → ℕ → ℕ → Bool
reads table t m = has_reader (slice_get table.messages m) t

abbrev pub row_words : Option MsgRow → ℕ
row_words None = 0
row_words (Some row) = row.words

-- the number of words of a message
abbrev pub words_of : Table → ℕ → ℕ
words_of table m = row_words (slice_get table.messages m)

-- the address is a multiple of 4, and so many words from there on are wholly in an own window of that many bytes
abbrev pub is_in_own : ℕ → ℕ → ℕ → Bool
is_in_own own words at =
    (at % 4 == 0) && nat_le own_base at && nat_le (at + 4 * words) (own_base + own)

-- ---- refusals

-- tests that refuse, each with its code: the code of the first that holds
abbrev pub first_refusal : List (Bool × ℤ) → Option ℤ
first_refusal [] = None
first_refusal (test ∷ rest) = if test.0 then Some test.1 else first_refusal rest

-- the tests of a call by the task t, in their order
unfoldable pub refusal_tests : Call → Table → ℕ → Known → List (Bool × ℤ)
refusal_tests WaitJob table t known = (owns_any known, E_HELD) ∷ []
refusal_tests (Acquire s) table t known =
    (not (nat_lt s table.semaphores), E_ARG) ∷ (not (uses table t s), E_USE) ∷ (owns_any known, E_NEST) ∷ []
refusal_tests (Release s) table t known =
    (not (nat_lt s table.semaphores), E_ARG) ∷ (not (known.owns s), E_OWNER) ∷ []
refusal_tests (Out port word) table t known =
    (not (nat_lt port 8), E_ARG) ∷ (not (known.plugged port), E_PORT) ∷ []
refusal_tests (Write m at) table t known =
    (not (nat_lt m (length table.messages)), E_ARG) ∷ (not (writes table t m), E_ROLE)
    ∷ (not (is_in_own table.own (words_of table m) at), E_ADDR) ∷ []
refusal_tests (Read m at) table t known =
    (not (nat_lt m (length table.messages)), E_ARG) ∷ (not (reads table t m), E_ROLE)
    ∷ (not (is_in_own table.own (words_of table m) at), E_ADDR) ∷ []
refusal_tests (Signal u word) table t known =
    (not (nat_lt u (length table.tasks)), E_ARG) ∷ (not (is_background table u), E_ROLE) ∷ (known.full u, E_FULL) ∷ []
refusal_tests Exit table t known = (owns_any known, E_HELD) ∷ []
refusal_tests (Unknown number) table t known = (true, E_CALL) ∷ []

-- the code of the first refusal of a call by the task t
abbrev pub refusal : Call → Table → ℕ → Known → Option ℤ
refusal call table t known = first_refusal (refusal_tests call table t known)
