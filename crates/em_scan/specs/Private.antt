-- The instructions that a task may take ahead of its turn, since no other task sees them: they change registers and the program counter
-- alone, read only what the task alone writes, and go forward. This project's own, over the RISC-V unprivileged manual's RV32I, version 2.1.
use Rattle.std.specs.Prelude.{ℕ, ◌+◌, ◌/◌, ◌==◌, Bool, true, ◌&&◌, is_some, nat_lt, nat_le, List, slice_index, Option, Some, None, if◌then◌else◌}
use Rattle.std.specs.Option.{unwrap_or}
use Rattle.em_hart.specs.Hart.{own_base}
use Rattle.em_hart.specs.Fields.{opcode, rd, rs1, rs2}
use Rattle.em_hart.specs.InstructionTable.{Mnemonic, mnemonic}
use Rattle.em_hart.specs.Effect.{Effect, writes, jumps, jumps_by_register, branches, loads, stores, passes, calls, breaks, effect, sum}
use Rattle.em_hart.specs.Instruction.{is_aligned, is_inside_code}
use Rattle.em_scan.specs.Known.{Known, known_of, with_known}
use Rattle.em_scan.specs.declared.next.Next.{Next}
use Rattle.em_scan.specs.declared.next.Next.TheVariants.{Takes, Stops, Goes, Forks}

-- ---- what an instruction does, as far as it is known

-- what the effect of a word takes from its registers: their values, and 0 where one isn't known
abbrev pub value_known : Known → ℕ → ℕ
value_known known r = unwrap_or (known_of known r) 0

-- the effect of a word at an address
abbrev pub effect_known : Known → ℕ → ℕ → Mnemonic → Effect
effect_known known x word name = effect name word x (value_known known (rs1 word)) (value_known known (rs2 word))

-- the groups of instructions that compute a value from registers, by the table of opcodes: OP from rs1 and rs2, OP-IMM from rs1
abbrev OP : ℕ
OP = 0b0110011

abbrev OP_IMM : ℕ
OP_IMM = 0b0010011

-- the registers from which a word computes the value that it writes are known; `lui`, `auipc` and `jal` need none
abbrev pub are_sources_known : Known → ℕ → Bool
are_sources_known known word =
    if opcode word == OP then is_some (known_of known (rs1 word)) && is_some (known_of known (rs2 word))
    else if opcode word == OP_IMM then is_some (known_of known (rs1 word))
    else true

-- ---- what comes next

-- a transfer may go from x to a target: forward, to a multiple of 4 inside the code
abbrev pub is_ahead : List ℕ → ℕ → ℕ → Bool
is_ahead code x target = nat_lt x target && is_inside_code code target

-- the n bytes from an address on are wholly inside an own window of so many bytes
abbrev pub is_inside_own : ℕ → ℕ → ℕ → Bool
is_inside_own own n address = nat_le own_base address && nat_le (address + n) (own_base + own)

-- the call of a task whose a7 and a0 are known so: 2 is acquire, and the semaphore is one of those that there are
abbrev pub acquire : ℕ → Option ℕ → Option ℕ → Next
acquire sems (Some number) (Some s) = if number == 2 && nat_lt s sems then Takes (record { 0 = s }) else Stops
acquire sems (Some number) None = Stops
acquire sems None s = Stops

-- what comes after an instruction with this effect at x, by what is known of its rs1: it is private or an acquire, or the walk stops
unfoldable pub next_by : List ℕ → ℕ → ℕ → Known → ℕ → Option ℕ → Effect → Next
next_by code sems own known x first (writes value) = Goes (sum x 4)
next_by code sems own known x first (jumps value target) = if is_ahead code x target then Goes target else Stops
next_by code sems own known x first (jumps_by_register value target) = Stops
next_by code sems own known x first (branches condition target) =
    if is_ahead code x target then Forks (sum x 4) target else Stops
next_by code sems own known x first (loads signed n address) =
    if is_some first && is_aligned n address && is_inside_own own n address
    then Goes (sum x 4) else Stops
next_by code sems own known x first (stores n address value) = Stops
next_by code sems own known x first passes = Goes (sum x 4)
next_by code sems own known x first calls = acquire sems (known_of known 17) (known_of known 10)
next_by code sems own known x first breaks = Stops

unfoldable pub next_of_word : List ℕ → ℕ → ℕ → Known → ℕ → ℕ → Option Mnemonic → Next
next_of_word code sems own known x word None = Stops
next_of_word code sems own known x word (Some name) =
    next_by code sems own known x (known_of known (rs1 word)) (effect_known known x word name)

-- what comes after the address x in a private walk: nothing outside the code
unfoldable pub next : List ℕ → ℕ → ℕ → ℕ → Known → Next
next code sems own x known =
    let word = slice_index code (x / 4) in
    if is_inside_code code x then next_of_word code sems own known x word (mnemonic word) else Stops

-- ---- what becomes known

-- what is known after an instruction with this effect, by whether its sources are known and by its rd
unfoldable pub learned_by : Bool → Known → ℕ → Effect → Known
learned_by sources known d (writes value) = with_known known d (if sources then Some value else None)
learned_by sources known d (jumps value target) = with_known known d (Some value)
learned_by sources known d (jumps_by_register value target) = known
learned_by sources known d (branches condition target) = known
learned_by sources known d (loads signed n address) = with_known known d None
learned_by sources known d (stores n address value) = known
learned_by sources known d passes = known
learned_by sources known d calls = known
learned_by sources known d breaks = known

unfoldable pub learned_of_word : Known → ℕ → ℕ → Option Mnemonic → Known
learned_of_word known x word None = known
learned_of_word known x word (Some name) =
    learned_by (are_sources_known known word) known (rd word) (effect_known known x word name)

-- what is known after the instruction at x: nothing more outside the code
unfoldable pub learned : List ℕ → ℕ → Known → Known
learned code x known =
    let word = slice_index code (x / 4) in
    if is_inside_code code x then learned_of_word known x word (mnemonic word) else known
