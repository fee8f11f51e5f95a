-- What comes where nothing is amiss, and where the bytes alone are.
use Rattle.std.proofs.Common.{◌≡◌, ◌≢◌, ◌∙◌, ℕ, true, ◌+◌, ◌<◌, ◌≤◌, ◌⊎◌, List, [], ◌++◌, length, Option, Some, None, inl, inr, refl, sym, ap, subst, arith, append-nil, length-append}
use Rattle.std.proofs.lemmas.Bool.{true≢false}
use Rattle.em_base.specs.declared.apps.App.{App}
use Rattle.em_base.specs.declared.refusals.Refusal.{Refusal}
use Rattle.em_ports.specs.Ports.{Places}
use Rattle.em_bundle.specs.Application.{IsApplicationFor, IsBundleRefusedFor}
use Rattle.em_kernel.specs.Run.{counted_boot, fuel}
use Rattle.em_gate.specs.Boot.{boot}
use Rattle.em_gate.specs.State.{Plain}
use Rattle.em_base.specs.declared.events.Schedule.{Schedule}
use Rattle.em_plain.specs.Runs.{part_from, run_from, state_of}
use Rattle.em_run.specs.declared.commands.Command.TheVariants.{Run, Trial, Replay, List as ListCode, Hint, Bench}
use Rattle.em_io.specs.Bytes.{input_limit, Rose, then_left, IsAtEnd, Took}
use Rattle.em_run.specs.declared.commands.Command.{Command}
use Rattle.em_run.specs.declared.status.Status.{Status}
use Rattle.em_run.specs.declared.status.Status.TheVariants.{Done, Usage, ReadFault, WriteFault, TooLong, Malformed, Lapped, Misfit, NoMemory}
use Rattle.em_run.specs.Commands.{IsCommand}
use Rattle.em_run.specs.Unhinted.{unhinted}
use Rattle.em_run.specs.Output.{AreBytesOf, AreGiven, AreLeft, IsAnswerTo, IsDue, IsOutput, IsOutputOf, IsPartWay, IsRefusalText, IsReplayOutput, IsReplayPart, ReadsAll, ReadsWithin, Reading, is_reader, is_replay, refusal_text}
use Rattle.em_run.proofs.OneAnswer.{BundleLaws}
use Rattle.em_run.proofs.OneCommand.{one_command}

-- ---- what was read, where the source tells it

took_all : (bytes taken : List ℕ) (after : Option (List ℕ)) → Some bytes ≡ then_left taken after → length taken ≤ length bytes
took_all bytes taken None e = absurd (cc)
took_all bytes taken (Some rest) e =
    let same : bytes ≡ taken ++ rest = cc in
    omega (arith, ap length same, length-append taken rest)

read_all_of : (bytes taken : List ℕ) (after : Option (List ℕ)) → Some bytes ≡ then_left taken after → IsAtEnd after → taken ≡ bytes
read_all_of bytes taken None e h = absurd (cc)
read_all_of bytes taken (Some rest) e h =
    let same : bytes ≡ taken ++ rest = cc in
    sym (same ∙ ap (λ t. taken ++ t) h ∙ append-nil taken)

same_bytes : (r : Reading) (bytes taken : List ℕ) → r.left_before ≡ Some bytes → ReadsAll r taken → taken ≡ bytes
same_bytes r bytes taken told read = read_all_of bytes taken r.left_after (sym told ∙ read.all) read.to_end

not_all : (r : Reading) (bytes taken : List ℕ) → r.left_before ≡ Some bytes → ReadsAll r taken → input_limit < length bytes → ⊥
not_all r bytes taken told read many = absurd (omega (arith, ap length (same_bytes r bytes taken told read), read.within, many))

-- the bytes of a command are those that there are, where it reads
pub read_by : (command : Command) (r : Reading) (bytes : List ℕ) → is_reader command ≡ true → AreBytesOf command r bytes → ReadsAll r bytes
read_by Run r bytes e read = read
read_by Trial r bytes e read = read
read_by Replay r bytes e read = read
read_by ListCode r bytes e read = read
read_by Hint r bytes e read = read
read_by (Bench n) r bytes e read = absurd (true≢false (sym e))

nothing_taken : (before after : Option (List ℕ)) → after ≡ before → before ≡ then_left [] after
nothing_taken before None e = sym e
nothing_taken before (Some rest) e = sym e

-- no more was read than the limit, by the bytes of a command
within_of : (command : Command) (r : Reading) (bytes : List ℕ) → AreBytesOf command r bytes → ReadsWithin r
within_of Run r bytes read = (bytes, read.within, read.all)
within_of Trial r bytes read = (bytes, read.within, read.all)
within_of Replay r bytes read = (bytes, read.within, read.all)
within_of ListCode r bytes read = (bytes, read.within, read.all)
within_of Hint r bytes read = (bytes, read.within, read.all)
within_of (Bench n) r bytes read = ([], omega arith, nothing_taken r.left_before r.left_after read.1)

-- no more was read than the limit, where not the length is what is amiss
pub within_limit : (words : List (List ℕ)) (r : Reading) (before : Places) (s : Status) (text : List ℕ) (after : Places)
    → IsDue words r before s text after → s ≢ TooLong → ReadsWithin r
within_limit words r before Done text after d other = within_of d.command r d.due.bytes d.due.read
within_limit words r before Lapped text after d other = within_of d.command r d.due.bytes d.due.read
within_limit words r before Misfit text after d other = within_of d.command r d.due.bytes d.due.read
within_limit words r before Usage text after d other = ([], omega arith, nothing_taken r.left_before r.left_after d.1)
within_limit words r before ReadFault text after d other = d.due.1
within_limit words r before WriteFault text after d other = absurd d
within_limit words r before TooLong text after d other = absurd (other refl)
within_limit words r before Malformed text after d other = within_of d.command r d.due.bytes d.due.read
within_limit words r before NoMemory text after d other = d.0

-- ---- what is left of the ports

-- a whole plain run is a part of itself
pub record PlainLaws : Type 0 where
  pub whole : (app : App) (p : Plain) (schedule : Schedule) → (part : ℕ × ℕ) × (run_from app p schedule ≡ part_from app p schedule part)

-- the ports of a replay are those after a part of it
replay_part : PlainLaws → (app : App) (before : Places) (status : Status) (text : List ℕ) (after : Places) → IsReplayOutput app before status text after → IsReplayPart app before after
replay_part laws app before status text after out =
    let (part, same) = laws.whole app (boot app before) out.schedule in
    (out.schedule, out.given, (part, out.ports_are ∙ ap (λ went. (state_of went).ports) same))

-- the ports of an output are as they were, or those after all steps of the run
left_by_output : PlainLaws → (command : Command) (bytes : List ℕ) (before : Places) (s : Status) (text : List ℕ) (after : Places) (app : App) → IsApplicationFor (is_replay command) bytes app
    → IsOutput command app before s text after → (after ≡ before) ⊎ IsPartWay command bytes before after
left_by_output laws Run bytes before s text after app stands out =
    inr record { app = app; stands = stands; part = (fuel (unhinted app) (counted_boot (unhinted app) before), out.ports_are) }
left_by_output laws Trial bytes before s text after app stands out =
    inr record { app = app; stands = stands; part = (fuel (unhinted app) (counted_boot (unhinted app) before), out.ports_are) }
left_by_output laws Replay bytes before s text after app stands out =
    inr record { app = app; stands = stands; part = replay_part laws (unhinted app) before s text after out }
left_by_output laws ListCode bytes before s text after app stands out = inl out.ports_stay
left_by_output laws Hint bytes before s text after app stands out = inl out.ports_stay
left_by_output laws (Bench n) bytes before s text after app stands out =
    inr record { app = app; stands = stands; part = (fuel (unhinted app) (counted_boot (unhinted app) before), out.ports_are) }

left_by : (words : List (List ℕ)) (r : Reading) (before after : Places) (command : Command) (bytes : List ℕ) → IsCommand words command → AreBytesOf command r bytes
    → (after ≡ before) ⊎ IsPartWay command bytes before after → AreLeft words r before after
left_by words r before after command bytes w read (inl stay) = inl stay
left_by words r before after command bytes w read (inr part) = inr (command, bytes, w, read, part)

-- whatever is due, the ports are as they were handed in, or those after some number of steps of the run
pub are_left : PlainLaws → (words : List (List ℕ)) (r : Reading) (before : Places) (s : Status) (text : List ℕ) (after : Places) → IsDue words r before s text after
    → AreLeft words r before after
are_left laws words r before Done text after d =
    let out = d.due.due in
    left_by words r before after d.command d.due.bytes d.words_are d.due.read (left_by_output laws d.command d.due.bytes before Done text after out.app out.stands out.output)
are_left laws words r before Lapped text after d =
    let out = d.due.due in
    left_by words r before after d.command d.due.bytes d.words_are d.due.read (left_by_output laws d.command d.due.bytes before Lapped text after out.app out.stands out.output)
are_left laws words r before Misfit text after d =
    let out = d.due.due in
    left_by words r before after d.command d.due.bytes d.words_are d.due.read (left_by_output laws d.command d.due.bytes before Misfit text after out.app out.stands out.output)
are_left laws words r before Usage text after d = inl d.3
are_left laws words r before ReadFault text after d = inl d.due.4
are_left laws words r before WriteFault text after d = absurd d
are_left laws words r before TooLong text after d = inl d.due.3
are_left laws words r before Malformed text after d = inl d.due.due.1
are_left laws words r before NoMemory text after d = d.2

-- ---- what comes

-- the bytes of a command are those that it was given
same_given : (command : Command) (r : Reading) (bytes taken : List ℕ) → AreGiven command r.left_before bytes → AreBytesOf command r taken → taken ≡ bytes
same_given Run r bytes taken given read = same_bytes r bytes taken given.0 read
same_given Trial r bytes taken given read = same_bytes r bytes taken given.0 read
same_given Replay r bytes taken given read = same_bytes r bytes taken given.0 read
same_given ListCode r bytes taken given read = same_bytes r bytes taken given.0 read
same_given Hint r bytes taken given read = same_bytes r bytes taken given.0 read
same_given (Bench n) r bytes taken given read = read.0 ∙ sym given

-- a command that reads was given what the source had left
given_by : (command : Command) (r : Reading) (bytes : List ℕ) → is_reader command ≡ true → AreGiven command r.left_before bytes
    → (r.left_before ≡ Some bytes) × (length bytes ≤ input_limit)
given_by Run r bytes e given = given
given_by Trial r bytes e given = given
given_by Replay r bytes e given = given
given_by ListCode r bytes e given = given
given_by Hint r bytes e given = given
given_by (Bench n) r bytes e given = absurd (true≢false (sym e))

too_long : (words : List (List ℕ)) (r : Reading) (bytes : List ℕ) (command other : Command) → IsCommand words command → IsCommand words other
    → AreGiven command r.left_before bytes → is_reader other ≡ true → (taken : Took (λ n. n ≡ input_limit + 1) r.left_before r.left_after) → ⊥
too_long words r bytes command other w v given reads taken =
    let (told, few) = given_by command r bytes (ap is_reader (one_command words command other w v) ∙ reads) given in
    let within = took_all bytes taken.0 r.left_after (sym told ∙ taken.2) in
    absurd (omega (arith, within, taken.1, few))

-- what is due for the command and the bytes that it was given
due_of : (words : List (List ℕ)) (r : Reading) (before : Places) (s : Status) (text : List ℕ) (after : Places) (command : Command) (bytes : List ℕ)
    → IsCommand words command → AreGiven command r.left_before bytes → (other : Command) (taken : List ℕ) → IsCommand words other → AreBytesOf other r taken
    → IsAnswerTo other taken before s text after → IsAnswerTo command bytes before s text after
due_of words r before s text after command bytes w given other taken v read due =
    let same = one_command words other command v w in
    subst (λ b. IsAnswerTo command b before s text after) (same_given command r bytes taken given (subst (λ c. AreBytesOf c r taken) same read))
    (subst (λ c. IsAnswerTo c taken before s text after) same due)

output_of : BundleLaws → (command : Command) (bytes : List ℕ) (before : Places) (s : Status) (text : List ℕ) (after : Places) (app : App)
    → IsApplicationFor (is_replay command) bytes app → IsOutputOf command bytes before s text after → IsOutput command app before s text after
output_of laws command bytes before s text after app stands out =
    subst (λ a. IsOutput command a before s text after) (laws.app (is_replay command) bytes out.app app out.stands stands) out.output

refusal_of : BundleLaws → (command : Command) (bytes text : List ℕ) (refusal : Refusal) → IsBundleRefusedFor (is_replay command) bytes refusal
    → IsRefusalText command bytes text → text ≡ refusal_text refusal.code refusal.line
refusal_of laws command bytes text refusal refused named =
    named.names ∙ ap (λ r. refusal_text r.code r.line) (laws.refusal (is_replay command) bytes named.refusal refusal named.refused refused)

pub complete : BundleLaws → (words : List (List ℕ)) (r : Reading) (before : Places) (s : Status) (text : List ℕ) (after : Places) (command : Command) (bytes : List ℕ) (app : App)
    → IsCommand words command → AreGiven command r.left_before bytes → IsApplicationFor (is_replay command) bytes app
    → (Rose r.faults_before r.faults_after → ⊥) → IsDue words r before s text after
    → (s ≡ NoMemory) ⊎ IsOutput command app before s text after
complete laws words r before Done text after command bytes app w given stands still d =
    inr (output_of laws command bytes before Done text after app stands
    (due_of words r before Done text after command bytes w given d.command d.due.bytes d.words_are d.due.read d.due.due))
complete laws words r before Lapped text after command bytes app w given stands still d =
    inr (output_of laws command bytes before Lapped text after app stands
    (due_of words r before Lapped text after command bytes w given d.command d.due.bytes d.words_are d.due.read d.due.due))
complete laws words r before Misfit text after command bytes app w given stands still d =
    inr (output_of laws command bytes before Misfit text after app stands
    (due_of words r before Misfit text after command bytes w given d.command d.due.bytes d.words_are d.due.read d.due.due))
complete laws words r before NoMemory text after command bytes app w given stands still d = inl refl
complete laws words r before Usage text after command bytes app w given stands still d = absurd (d.0 command w)
complete laws words r before ReadFault text after command bytes app w given stands still d = absurd (still d.due.2)
complete laws words r before WriteFault text after command bytes app w given stands still d = absurd d
complete laws words r before TooLong text after command bytes app w given stands still d =
    absurd (too_long words r bytes command d.command w d.words_are given d.due.0 d.due.1)
complete laws words r before Malformed text after command bytes app w given stands still d =
    let due = due_of words r before Malformed text after command bytes w given d.command d.due.bytes d.words_are d.due.read d.due.due in
    absurd (laws.either (is_replay command) bytes app due.0.refusal stands due.0.refused)

pub refuses : BundleLaws → (words : List (List ℕ)) (r : Reading) (before : Places) (s : Status) (text : List ℕ) (after : Places) (command : Command) (bytes : List ℕ) (refusal : Refusal)
    → IsCommand words command → AreGiven command r.left_before bytes → IsBundleRefusedFor (is_replay command) bytes refusal
    → (Rose r.faults_before r.faults_after → ⊥) → IsDue words r before s text after
    → (s ≡ NoMemory) ⊎ ((s ≡ Malformed) × (text ≡ refusal_text refusal.code refusal.line))
refuses laws words r before Malformed text after command bytes refusal w given refused still d =
    let due = due_of words r before Malformed text after command bytes w given d.command d.due.bytes d.words_are d.due.read d.due.due in
    inr (refl, refusal_of laws command bytes text refusal refused due.0)
refuses laws words r before NoMemory text after command bytes refusal w given refused still d = inl refl
refuses laws words r before Usage text after command bytes refusal w given refused still d = absurd (d.0 command w)
refuses laws words r before ReadFault text after command bytes refusal w given refused still d = absurd (still d.due.2)
refuses laws words r before WriteFault text after command bytes refusal w given refused still d = absurd d
refuses laws words r before TooLong text after command bytes refusal w given refused still d =
    absurd (too_long words r bytes command d.command w d.words_are given d.due.0 d.due.1)
refuses laws words r before Done text after command bytes refusal w given refused still d =
    let out = due_of words r before Done text after command bytes w given d.command d.due.bytes d.words_are d.due.read d.due.due in
    absurd (laws.either (is_replay command) bytes out.app refusal out.stands refused)
refuses laws words r before Lapped text after command bytes refusal w given refused still d =
    let out = due_of words r before Lapped text after command bytes w given d.command d.due.bytes d.words_are d.due.read d.due.due in
    absurd (laws.either (is_replay command) bytes out.app refusal out.stands refused)
refuses laws words r before Misfit text after command bytes refusal w given refused still d =
    let out = due_of words r before Misfit text after command bytes w given d.command d.due.bytes d.words_are d.due.read d.due.due in
    absurd (laws.either (is_replay command) bytes out.app refusal out.stands refused)

long_unread : (words : List (List ℕ)) (r : Reading) (command other : Command) (bytes taken : List ℕ) → IsCommand words command → IsCommand words other
    → is_reader command ≡ true → r.left_before ≡ Some bytes → input_limit < length bytes → AreBytesOf other r taken → ⊥
long_unread words r command other bytes taken w v reads told many read =
    not_all r bytes taken told (read_by other r taken (ap is_reader (one_command words other command v w) ∙ reads) read) many

pub refuses_length : (words : List (List ℕ)) (r : Reading) (before : Places) (s : Status) (text : List ℕ) (after : Places) (command : Command) (bytes : List ℕ)
    → IsCommand words command → is_reader command ≡ true → r.left_before ≡ Some bytes → input_limit < length bytes
    → (Rose r.faults_before r.faults_after → ⊥) → IsDue words r before s text after → (s ≡ NoMemory) ⊎ (s ≡ TooLong)
refuses_length words r before TooLong text after command bytes w reads told many still d = inr refl
refuses_length words r before NoMemory text after command bytes w reads told many still d = inl refl
refuses_length words r before Usage text after command bytes w reads told many still d = absurd (d.0 command w)
refuses_length words r before ReadFault text after command bytes w reads told many still d = absurd (still d.due.2)
refuses_length words r before WriteFault text after command bytes w reads told many still d = absurd d
refuses_length words r before Malformed text after command bytes w reads told many still d =
    absurd (long_unread words r command d.command bytes d.due.bytes w d.words_are reads told many d.due.read)
refuses_length words r before Done text after command bytes w reads told many still d =
    absurd (long_unread words r command d.command bytes d.due.bytes w d.words_are reads told many d.due.read)
refuses_length words r before Lapped text after command bytes w reads told many still d =
    absurd (long_unread words r command d.command bytes d.due.bytes w d.words_are reads told many d.due.read)
refuses_length words r before Misfit text after command bytes w reads told many still d =
    absurd (long_unread words r command d.command bytes d.due.bytes w d.words_are reads told many d.due.read)
