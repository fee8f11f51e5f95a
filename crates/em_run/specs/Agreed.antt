-- That the trace of a run is the plain machine's, that its schedule can be replayed, and that its reads are whole: this project's own.
use Rattle.std.specs.Prelude.{◌≡◌, ℕ, ◌≤◌, Bool, true, false, List, ◌++◌, length, codes}
use Rattle.em_base.specs.declared.apps.App.{App}
use Rattle.em_base.specs.declared.events.Schedule.{Schedule}
use Rattle.em_io.specs.Bytes.{input_limit}
use Rattle.em_trace.specs.declared.lines.Line.{Line}
use Rattle.em_trace.specs.Printed.{trace_text}
use Rattle.em_trace.specs.Schedules.{most_steps}
use Rattle.em_ports.specs.Ports.{Places}
use Rattle.em_bundle.specs.Application.{IsApplicationFor}
use Rattle.em_bundle.specs.Scheduled.{with_schedule}
use Rattle.em_kernel.specs.Run.{run_steps}
use Rattle.em_plain.specs.Runs.{plain_run}
use Rattle.em_sched.specs.Image.{schedule_of}
use Rattle.em_sched.specs.Reads.{AreReadsWhole}
use Rattle.em_sched.specs.Traces.{AreFirstOf, Gives, IsRising, lines_in}
use Rattle.em_run.specs.declared.commands.Command.{Command}
use Rattle.em_run.specs.declared.commands.Command.TheVariants.{Run, Trial, Replay, List as ListCode, Hint, Bench}
use Rattle.em_run.specs.declared.status.Status.TheVariants.{Done}
use Rattle.em_run.specs.Output.{IsReplayOutput}
use Rattle.em_run.specs.Unhinted.{unhinted}
use Rattle.em_run.specs.Runs.{parts_text, run_text}

-- the commands that run an application on the kernel and write its trace
abbrev pub is_run : Command → Bool
is_run Run = true
is_run Trial = true
is_run Replay = false
is_run ListCode = false
is_run Hint = false
is_run (Bench n) = false

-- a replay of the bundle with this schedule put behind it, with the ports that are handed in, writes these lines as its trace
pub record IsReplayed (bytes : List ℕ) (schedule : Schedule) (before : Places) (lines : List Line) : Type 0 where
  pub app : App
  pub stands : IsApplicationFor true (with_schedule bytes schedule) app
  pub ending : List ℕ
  pub after : Places
  pub replays : IsReplayOutput (unhinted app) before Done (codes "%trace\n" ++ trace_text lines ++ (codes "%end\n" ++ ending)) after

-- the bytes stand for an application, and the text is a trace, a schedule and an end. The trace and the schedule are those of the
-- application's run with these ports; the schedule has the first events of the application in their order, and its counts don't fall. And
-- the trace is that of the plain machine of the unhinted source, with the same ports, under this schedule. Where the schedule is within the
-- limits of one that is read, and the bundle with it within that of an input, its replay writes the same trace.
pub record IsAgreed (bytes : List ℕ) (before : Places) (text : List ℕ) : Type 0 where
  pub app : App
  pub stands : IsApplicationFor false bytes app
  pub lines : List Line
  pub schedule : Schedule
  pub ending : List ℕ
  pub text_is : text ≡ parts_text lines schedule ending
  pub run : lines ≡ lines_in (run_steps (unhinted app) before)
  pub counted : schedule ≡ schedule_of (unhinted app) before
  pub first : AreFirstOf app schedule
  pub rises : IsRising 0 schedule.events schedule.last
  pub plain : Gives (plain_run (unhinted app) before schedule) lines
  pub replayed : schedule.last ≤ most_steps → length (with_schedule bytes schedule) ≤ input_limit → IsReplayed bytes schedule before lines

-- the bytes stand for an application, the text is that of the application's run with these ports, and each read of this run that copied its
-- last word is whole: it put the words of the value whose number stands in its line, the newest that was published when it began, into the own
-- window of its task, and its task did nothing else meanwhile
pub record HasWholeReads (bytes : List ℕ) (before : Places) (text : List ℕ) : Type 0 where
  pub app : App
  pub stands : IsApplicationFor false bytes app
  pub text_is : text ≡ run_text (unhinted app) before
  pub reads : AreReadsWhole (unhinted app) before
