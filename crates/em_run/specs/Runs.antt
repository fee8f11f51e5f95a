-- What a run of an application comes to, and the text that the program writes of it. The format is this project's own.
use Rattle.std.specs.Prelude.{◌≡◌, ℕ, Bool, true, false, List, [], ◌∷◌, ◌++◌, count_by, length, Option, None, Some, codes}
use Rattle.std.specs.Fmt.{decimal}
use Rattle.em_base.specs.declared.apps.App.{App}
use Rattle.em_base.specs.declared.events.Schedule.{Schedule}
use Rattle.em_trace.specs.declared.lines.Line.{Line}
use Rattle.em_trace.specs.Printed.{trace_text}
use Rattle.em_trace.specs.Schedules.{schedule_text}
use Rattle.em_ports.specs.Ports.{Places}
use Rattle.em_kernel.specs.declared.did.Did.{Did}
use Rattle.em_kernel.specs.declared.did.End.{End}
use Rattle.em_kernel.specs.declared.did.End.TheVariants.{Horizon, Quiet, Lines, Lapped}
use Rattle.em_kernel.specs.declared.did.What.{What}
use Rattle.em_kernel.specs.declared.did.What.TheVariants.{Delivered, Stepped, Idled, Ended}
use Rattle.em_kernel.specs.Run.{counted_boot, run_end, run_steps, state_from}
use Rattle.em_sched.specs.Image.{schedule_of}
use Rattle.em_sched.specs.Traces.{lines_in}
use Rattle.em_run.specs.declared.running.Run.{Run}

-- ---- what the steps of a run come to

-- how many of the steps have a switch charge
abbrev pub switches_in : List Did → ℕ
switches_in steps = count_by (λ did. did.switched) steps

-- the first of two, where it is there, or else the second
abbrev pub or_cause : Option End → Option End → Option End
or_cause None other = other
or_cause (Some cause) other = Some cause

-- how a step ended the run, where it did
abbrev pub cause_of : What → Option End
cause_of (Delivered event) = None
cause_of (Stepped t kind) = None
cause_of Idled = None
cause_of (Ended cause) = Some cause

-- how the steps ended the run, where they did
abbrev pub cause_in : List Did → Option End
cause_in [] = None
cause_in (did ∷ rest) = or_cause (cause_of did.what) (cause_in rest)

-- a run of an application with these ports: its lines, its schedule, how it ended, its last clock and its number of switches
pub record IsRunOf (app : App) (ports : Places) (run : Run) : Type 0 where
  pub lines_are : run.lines ≡ lines_in (run_steps app ports)
  pub schedule_is : run.schedule ≡ schedule_of app ports
  pub ends : cause_in (run_steps app ports) ≡ Some run.end
  pub clock_is : run.clock ≡ (run_end app ports).clock
  pub switches_are : run.switches ≡ switches_in (run_steps app ports)

-- the ports of the last state of a run
abbrev pub ports_after : App → Places → Places
ports_after app ports = (run_end app ports).plain.ports

-- the ports after some number of steps of a run, which may be none
abbrev pub ArePartWay : App → Places → Places → Type 0
ArePartWay app before after = (n : ℕ) × (after ≡ (state_from app n (counted_boot app before)).plain.ports)

-- ---- the text

-- how a run ended, in words
abbrev pub cause_text : End → List ℕ
cause_text Horizon = codes "horizon"
cause_text Quiet = codes "quiet"
cause_text Lines = codes "lines"
cause_text (Lapped message noted begun) =
    codes "lapped " ++ decimal message.0 ++ codes " " ++ decimal noted ++ codes " " ++ decimal begun

-- the line of the end, where there is one, with the last clock and the number of switches
abbrev pub end_text : Option End → ℕ → ℕ → List ℕ
end_text None clock switches = []
end_text (Some cause) clock switches =
    cause_text cause ++ codes " clock " ++ decimal clock ++ codes " switches " ++ decimal switches ++ codes "\n"

-- the parts of a trace, of a schedule and of an end, each under its header line
abbrev pub parts_text : List Line → Schedule → List ℕ → List ℕ
parts_text lines schedule ending =
    codes "%trace\n" ++ trace_text lines ++ codes "%schedule\n" ++ schedule_text schedule ++ codes "%end\n" ++ ending

-- the text of a run: its trace, its schedule and its end
abbrev pub run_text : App → Places → List ℕ
run_text app ports =
    let steps = run_steps app ports in
    let ending = end_text (cause_in steps) (run_end app ports).clock (switches_in steps) in
    parts_text (lines_in steps) (schedule_of app ports) ending

-- the line of a bench: the number, how many lines the trace has, the last clock and the number of switches
abbrev pub bench_text : ℕ → App → Places → List ℕ
bench_text n app ports =
    let steps = run_steps app ports in
    codes "bench " ++ decimal n ++ codes " lines " ++ decimal (length (lines_in steps)) ++ codes " clock " ++ decimal (run_end app ports).clock
    ++ codes " switches " ++ decimal (switches_in steps) ++ codes "\n"

-- the parts of a plain run: its trace, and a line with a word and the number of steps
abbrev pub replay_text : List Line → List ℕ → ℕ → List ℕ
replay_text lines word count =
    codes "%trace\n" ++ trace_text lines ++ codes "%end\n" ++ word ++ codes " " ++ decimal count ++ codes "\n"

-- the word for the end of a plain run: the trace is full, or it came to the last count
abbrev pub end_word : Bool → List ℕ
end_word true = codes "lines"
end_word false = codes "replayed"

-- the line of a misfit, with the number of steps
abbrev pub misfit_text : ℕ → List ℕ
misfit_text count = codes "misfit " ++ decimal count ++ codes "\n"
