-- What the program answers and writes, and the ports that it leaves, by its words, by what it read and by the ports that are handed in: this
-- project's own.
use Rattle.std.specs.Prelude.{◌≡◌, ◌⊎◌, ℕ, ◌+◌, ◌≤◌, Bool, true, false, List, ◌++◌, length, Option, None, Some, codes}
use Rattle.std.specs.Fmt.{decimal}
use Rattle.std.specs.Str.Lines.{lines}
use Rattle.em_base.specs.declared.apps.App.{App}
use Rattle.em_base.specs.declared.events.Schedule.{Schedule}
use Rattle.em_base.specs.declared.refusals.Refusal.{Refusal}
use Rattle.em_io.specs.Bytes.{input_limit, Rose, then_left, and_then, IsAtEnd, Took}
use Rattle.em_ports.specs.Ports.{Places}
use Rattle.em_show.specs.Listing.{IsListing}
use Rattle.em_hint.specs.Lines.{hinted_text}
use Rattle.em_bundle.specs.Application.{IsApplicationFor, IsBundleRefusedFor}
use Rattle.em_trace.specs.Schedules.{IsSchedule}
use Rattle.em_gen.specs.Workload.{workload}
use Rattle.em_plain.specs.Answers.{ArePartWay as ArePlainPart}
use Rattle.em_plain.specs.Runs.{Went, On, Full, Misfit as MisfitWent, plain_run, state_of}
use Rattle.em_kernel.specs.declared.did.End.{End}
use Rattle.em_kernel.specs.declared.did.End.TheVariants.{Horizon, Quiet, Lines, Lapped as LappedEnd}
use Rattle.em_kernel.specs.Run.{run_steps}
use Rattle.em_run.specs.declared.commands.Command.{Command}
use Rattle.em_run.specs.declared.commands.Command.TheVariants.{Run, Trial, Replay, List as ListCode, Hint, Bench}
use Rattle.em_run.specs.declared.status.Status.{Status}
use Rattle.em_run.specs.declared.status.Status.TheVariants.{Done, Usage, ReadFault, WriteFault, TooLong, Malformed, Lapped, Misfit, NoMemory}
use Rattle.em_run.specs.Commands.{IsCommand, IsNoCommand}
use Rattle.em_run.specs.Unhinted.{unhinted}
use Rattle.em_run.specs.Runs.{ArePartWay, bench_text, cause_in, end_word, misfit_text, ports_after, replay_text, run_text}

-- a source before a call and after it: what it has left, where it tells that, and its count of faults
pub record Reading : Type 0 where
  pub left_before : Option (List ℕ)
  pub left_after : Option (List ℕ)
  pub faults_before : ℕ
  pub faults_after : ℕ

-- the reading of a source, from what stands before the call and after it
abbrev pub reading : Option (List ℕ) → Option (List ℕ) → ℕ → ℕ → Reading
reading before after faults_before faults_after =
    record { left_before = before; left_after = after; faults_before = faults_before; faults_after = faults_after }

-- these bytes were all that was left, were read to their end, and are within the limit
pub record ReadsAll (reading : Reading) (bytes : List ℕ) : Type 0 where
  pub all : reading.left_before ≡ then_left bytes reading.left_after
  pub to_end : IsAtEnd reading.left_after
  pub within : length bytes ≤ input_limit

-- these are the bytes of the command: those that were read, or for a bench those of the workload, and then nothing was read
abbrev pub AreBytesOf : Command → Reading → List ℕ → Type 0
AreBytesOf Run r bytes = ReadsAll r bytes
AreBytesOf Trial r bytes = ReadsAll r bytes
AreBytesOf Replay r bytes = ReadsAll r bytes
AreBytesOf ListCode r bytes = ReadsAll r bytes
AreBytesOf Hint r bytes = ReadsAll r bytes
AreBytesOf (Bench n) r bytes = (bytes ≡ workload n) × (r.left_after ≡ r.left_before)

-- the command is given these bytes: what the source has left, within the limit, or for a bench those of the workload
abbrev pub AreGiven : Command → Option (List ℕ) → List ℕ → Type 0
AreGiven Run left bytes = (left ≡ Some bytes) × (length bytes ≤ input_limit)
AreGiven Trial left bytes = (left ≡ Some bytes) × (length bytes ≤ input_limit)
AreGiven Replay left bytes = (left ≡ Some bytes) × (length bytes ≤ input_limit)
AreGiven ListCode left bytes = (left ≡ Some bytes) × (length bytes ≤ input_limit)
AreGiven Hint left bytes = (left ≡ Some bytes) × (length bytes ≤ input_limit)
AreGiven (Bench n) left bytes = bytes ≡ workload n

-- the command reads the source
abbrev pub is_reader : Command → Bool
is_reader Run = true
is_reader Trial = true
is_reader Replay = true
is_reader ListCode = true
is_reader Hint = true
is_reader (Bench n) = false

-- no more bytes were read than the limit
abbrev pub ReadsWithin : Reading → Type 0
ReadsWithin r = Took (λ n. n ≤ input_limit) r.left_before r.left_after

-- these bytes were appended to what was written, and no others
abbrev pub Wrote : Option (List ℕ) → Option (List ℕ) → List ℕ → Type 0
Wrote before after bytes = after ≡ and_then before bytes

-- ---- what is carried out

-- the status of a run, by how it ended
abbrev pub status_by : End → Status
status_by Horizon = Done
status_by Quiet = Done
status_by Lines = Done
status_by (LappedEnd message noted begun) = Lapped

-- the status of a run, where its steps have an end
abbrev pub status_of : Option End → Status
status_of None = Done
status_of (Some cause) = status_by cause

-- the output of a run: the status by how it ended, the parts of its trace, its schedule and its end, and the ports of its last state
pub record IsRunOutput (app : App) (before : Places) (status : Status) (text : List ℕ) (after : Places) : Type 0 where
  pub status_is : status ≡ status_of (cause_in (run_steps app before))
  pub text_is : text ≡ run_text app before
  pub ports_are : after ≡ ports_after app before

-- the output of a listing: nothing is run
pub record IsListOutput (app : App) (before : Places) (status : Status) (text : List ℕ) (after : Places) : Type 0 where
  pub status_is : status ≡ Done
  pub text_is : IsListing app.image.words text
  pub ports_stay : after ≡ before

-- the output of a hinted text: the text of the code, with the hints that are found. Nothing is run
pub record IsHintOutput (app : App) (before : Places) (status : Status) (text : List ℕ) (after : Places) : Type 0 where
  pub status_is : status ≡ Done
  pub text_is : text ≡ hinted_text app.hints app.image.waits (app.code_line + 1) (lines app.code_text)
  pub ports_stay : after ≡ before

-- the output of a bench: a line of what the run comes to, and the ports of its last state
pub record IsBenchOutput (n : ℕ) (app : App) (before : Places) (status : Status) (text : List ℕ) (after : Places) : Type 0 where
  pub status_is : status ≡ status_of (cause_in (run_steps app before))
  pub text_is : text ≡ bench_text n app before
  pub ports_are : after ≡ ports_after app before

-- the status and the text of a plain run, by how far it went
abbrev pub IsReplay : Went → Status → List ℕ → Type 0
IsReplay (On p count) status text = (status ≡ Done) × (text ≡ replay_text p.lines (end_word false) count)
IsReplay (Full p count) status text = (status ≡ Done) × (text ≡ replay_text p.lines (end_word true) count)
IsReplay (MisfitWent p count) status text = (status ≡ Misfit) × (text ≡ misfit_text count)

-- the output of a replay: that of the plain run under the schedule of the application, and the ports where it stops
pub record IsReplayOutput (app : App) (before : Places) (status : Status) (text : List ℕ) (after : Places) : Type 0 where
  pub schedule : Schedule
  pub given : app.schedule ≡ Some schedule
  pub replays : IsReplay (plain_run app before schedule) status text
  pub ports_are : after ≡ (state_of (plain_run app before schedule)).ports

-- the output of a command on an application, with the ports that are handed in: its status, its text, and the ports afterwards. What is run
-- is the unhinted source
abbrev pub IsOutput : Command → App → Places → Status → List ℕ → Places → Type 0
IsOutput Run app before status text after = IsRunOutput (unhinted app) before status text after
IsOutput Trial app before status text after = IsRunOutput (unhinted app) before status text after
IsOutput Replay app before status text after = IsReplayOutput (unhinted app) before status text after
IsOutput ListCode app before status text after = IsListOutput app before status text after
IsOutput Hint app before status text after = IsHintOutput app before status text after
IsOutput (Bench n) app before status text after = IsBenchOutput n (unhinted app) before status text after

-- the command whose bundle has a schedule
abbrev pub is_replay : Command → Bool
is_replay Replay = true
is_replay Run = false
is_replay Trial = false
is_replay ListCode = false
is_replay Hint = false
is_replay (Bench n) = false

-- the bytes stand for an application, and this is the output of the command on it
pub record IsOutputOf (command : Command) (bytes : List ℕ) (before : Places) (status : Status) (text : List ℕ) (after : Places) : Type 0 where
  pub app : App
  pub stands : IsApplicationFor (is_replay command) bytes app
  pub output : IsOutput command app before status text after

-- the application has a schedule for its tasks
abbrev pub HasSchedule : App → Type 0
HasSchedule app = (schedule : Schedule) × (app.schedule ≡ Some schedule) × IsSchedule (length app.table.tasks) schedule

-- the ports are those after a part of the plain run under the schedule of an application
abbrev pub IsReplayPart : App → Places → Places → Type 0
IsReplayPart app before after = (schedule : Schedule) × (app.schedule ≡ Some schedule) × ArePlainPart app schedule before after

-- the ports are those after a part of what the command runs of an application
abbrev pub IsPartOf : Command → App → Places → Places → Type 0
IsPartOf Run app before after = ArePartWay (unhinted app) before after
IsPartOf Trial app before after = ArePartWay (unhinted app) before after
IsPartOf Replay app before after = IsReplayPart (unhinted app) before after
IsPartOf ListCode app before after = ⊥
IsPartOf Hint app before after = ⊥
IsPartOf (Bench n) app before after = ArePartWay (unhinted app) before after

-- the command runs the application that the bytes stand for, and the ports are those after a part of that
pub record IsPartWay (command : Command) (bytes : List ℕ) (before after : Places) : Type 0 where
  pub app : App
  pub stands : IsApplicationFor (is_replay command) bytes app
  pub part : IsPartOf command app before after

-- ---- what is refused

-- the text of a refusal, by its code and its line
abbrev pub refusal_text : ℕ → ℕ → List ℕ
refusal_text code line = codes "error " ++ decimal code ++ codes " line " ++ decimal line ++ codes "\n"

-- the bytes are refused, and the text names the code and the line
pub record IsRefusalText (command : Command) (bytes text : List ℕ) : Type 0 where
  pub refusal : Refusal
  pub refused : IsBundleRefusedFor (is_replay command) bytes refusal
  pub names : text ≡ refusal_text refusal.code refusal.line

-- ---- what is due

-- what is due for a command and bytes that were read to their end. Want of memory may come before a run, in it and after it.
abbrev pub IsAnswerTo : Command → List ℕ → Places → Status → List ℕ → Places → Type 0
IsAnswerTo command bytes before Done text after = IsOutputOf command bytes before Done text after
IsAnswerTo command bytes before Lapped text after = IsOutputOf command bytes before Lapped text after
IsAnswerTo command bytes before Misfit text after = IsOutputOf command bytes before Misfit text after
IsAnswerTo command bytes before Malformed text after = IsRefusalText command bytes text × (after ≡ before)
IsAnswerTo command bytes before NoMemory text after =
    (text ≡ codes "error memory\n") × ((after ≡ before) ⊎ IsPartWay command bytes before after)
IsAnswerTo command bytes before Usage text after = ⊥
IsAnswerTo command bytes before ReadFault text after = ⊥
IsAnswerTo command bytes before WriteFault text after = ⊥
IsAnswerTo command bytes before TooLong text after = ⊥

-- the bytes were all that was left, and this is what is due for them
pub record IsAnswered (command : Command) (r : Reading) (before : Places) (status : Status) (text : List ℕ) (after : Places) : Type 0 where
  pub bytes : List ℕ
  pub read : AreBytesOf command r bytes
  pub due : IsAnswerTo command bytes before status text after

-- the ports are as they were handed in, or those after some number of steps of a run of what was read
abbrev pub AreLeftBy : Command → Reading → Places → Places → Type 0
AreLeftBy command r before after =
    (after ≡ before) ⊎ ((bytes : List ℕ) × AreBytesOf command r bytes × IsPartWay command bytes before after)

-- what is due for a command: the source is looked at first, then the length, then what the bytes stand for. Want of memory
-- needs no other cause.
abbrev pub IsDueFor : Command → Reading → Places → Status → List ℕ → Places → Type 0
IsDueFor command r before Done text after = IsAnswered command r before Done text after
IsDueFor command r before Lapped text after = IsAnswered command r before Lapped text after
IsDueFor command r before Misfit text after = IsAnswered command r before Misfit text after
IsDueFor command r before Usage text after = ⊥
IsDueFor command r before ReadFault text after =
    (is_reader command ≡ true) × ReadsWithin r × Rose r.faults_before r.faults_after × (text ≡ codes "error read\n") × (after ≡ before)
IsDueFor command r before WriteFault text after = ⊥
IsDueFor command r before TooLong text after =
    (is_reader command ≡ true) × Took (λ n. n ≡ input_limit + 1) r.left_before r.left_after × (text ≡ codes "error too long\n") × (after ≡ before)
IsDueFor command r before Malformed text after = IsAnswered command r before Malformed text after
IsDueFor command r before NoMemory text after = ReadsWithin r × (text ≡ codes "error memory\n") × AreLeftBy command r before after

-- the words are a command, and this is due for it
pub record IsDueForWords (words : List (List ℕ)) (r : Reading) (before : Places) (status : Status) (text : List ℕ) (after : Places) : Type 0 where
  pub command : Command
  pub words_are : IsCommand words command
  pub due : IsDueFor command r before status text after

-- the ports are as they were handed in, or those after some number of steps of a run that the words tell of what was read
abbrev pub AreLeft : List (List ℕ) → Reading → Places → Places → Type 0
AreLeft words r before after =
    (after ≡ before)
    ⊎ ((command : Command) × (bytes : List ℕ) × IsCommand words command × AreBytesOf command r bytes × IsPartWay command bytes before after)

-- each status, its cause, the text that is due with it and the ports afterwards. The words are looked at first; where they are no command,
-- nothing is read. Want of memory may come with any words. A fault of writing has no text of its own.
abbrev pub IsDue : List (List ℕ) → Reading → Places → Status → List ℕ → Places → Type 0
IsDue words r before Done text after = IsDueForWords words r before Done text after
IsDue words r before Lapped text after = IsDueForWords words r before Lapped text after
IsDue words r before Misfit text after = IsDueForWords words r before Misfit text after
IsDue words r before Usage text after =
    IsNoCommand words × (r.left_after ≡ r.left_before) × (text ≡ codes "error usage\n") × (after ≡ before)
IsDue words r before ReadFault text after = IsDueForWords words r before ReadFault text after
IsDue words r before WriteFault text after = ⊥
IsDue words r before TooLong text after = IsDueForWords words r before TooLong text after
IsDue words r before Malformed text after = IsDueForWords words r before Malformed text after
IsDue words r before NoMemory text after = ReadsWithin r × (text ≡ codes "error memory\n") × AreLeft words r before after
