-- What is due, by what was found and by how it came out.
use Rattle.std.proofs.Common.{◌≡◌, ◌⊎◌, ℕ, Bool, true, List, Option, None, Some, IfSome, is_some, inl, inr, refl, sym, subst}
use Rattle.std.proofs.lemmas.Bool.{true≢false}
use Rattle.em_base.specs.declared.apps.App.{App}
use Rattle.em_base.specs.declared.events.Schedule.{Schedule}
use Rattle.em_trace.specs.Schedules.{IsSchedule}
use Rattle.em_ports.specs.Ports.{Places}
use Rattle.em_base.specs.declared.refusals.Fail.{Fail}
use Rattle.em_base.specs.declared.refusals.Fail.TheVariants.{Refused}
use Rattle.em_base.specs.declared.refusals.Refusal.{Refusal}
use Rattle.em_bundle.specs.Application.{IsApplicationFor, IsBundleFail, IsBundleRefusedFor}
use Rattle.em_kernel.specs.declared.did.End.{End}
use Rattle.em_kernel.specs.declared.did.End.TheVariants.{Horizon, Quiet, Lines, Lapped as LappedEnd}
use Rattle.em_run.specs.declared.commands.Command.{Command}
use Rattle.em_run.specs.declared.commands.Command.TheVariants.{Run, Trial, Replay, List as ListCode, Hint, Bench}
use Rattle.em_run.specs.declared.status.Status.{Status}
use Rattle.em_run.specs.declared.status.Status.TheVariants.{Done, Usage, ReadFault, WriteFault, TooLong, Malformed, Lapped, Misfit, NoMemory}
use Rattle.em_kernel.specs.Run.{run_steps}
use Rattle.em_plain.specs.Runs.{Went, On, Full, Misfit as MisfitWent, plain_run}
use Rattle.em_run.specs.Unhinted.{unhinted}
use Rattle.em_run.specs.Output.{IsAnswerTo, IsOutput, IsReplay, is_replay, status_of}
use Rattle.em_run.specs.Runs.{cause_in}
use Rattle.em_run.specs.Texts.{IsAnswerFor, IsRefusalAnswer}

-- a status of an output
abbrev IsEnded : Status → Type 0
IsEnded status = (status ≡ Done) ⊎ ((status ≡ Lapped) ⊎ (status ≡ Misfit))

ended_run : (end : Option End) → IsEnded (status_of end)
ended_run None = inl refl
ended_run (Some Horizon) = inl refl
ended_run (Some Quiet) = inl refl
ended_run (Some Lines) = inl refl
ended_run (Some (LappedEnd message noted begun)) = inr (inl refl)

ended_replay : (went : Went) (status : Status) (text : List ℕ) → IsReplay went status text → IsEnded status
ended_replay (On p count) status text h = inl h.0
ended_replay (Full p count) status text h = inl h.0
ended_replay (MisfitWent p count) status text h = inr (inr h.0)

ended : (command : Command) (app : App) (before : Places) (status : Status) (text : List ℕ) (after : Places)
    → IsOutput command app before status text after → IsEnded status
ended Run app before status text after out = subst IsEnded (sym out.status_is) (ended_run (cause_in (run_steps (unhinted app) before)))
ended Trial app before status text after out = subst IsEnded (sym out.status_is) (ended_run (cause_in (run_steps (unhinted app) before)))
ended Replay app before status text after out = ended_replay (plain_run (unhinted app) before out.schedule) status text out.replays
ended ListCode app before status text after out = inl out.status_is
ended Hint app before status text after out = inl out.status_is
ended (Bench n) app before status text after out = subst IsEnded (sym out.status_is) (ended_run (cause_in (run_steps (unhinted app) before)))

-- an output is what is due for an application
pub output_due : (command : Command) (app : App) (before : Places) (status : Status) (text : List ℕ) (after : Places)
    → IsOutput command app before status text after → IsAnswerFor command app before status text after
output_due command app before status text after out = elim (ended command app before status text after out) [
  | inl e ↦ subst (λ s. IsAnswerFor command app before s text after) (sym e) (subst (λ s. IsOutput command app before s text after) e out)
  | inr (inl e) ↦ subst (λ s. IsAnswerFor command app before s text after) (sym e) (subst (λ s. IsOutput command app before s text after) e out)
  | inr (inr e) ↦ subst (λ s. IsAnswerFor command app before s text after) (sym e) (subst (λ s. IsOutput command app before s text after) e out)
]

-- what is due for an application is due for the bytes that stand for it
pub app_due : (command : Command) (bytes : List ℕ) (app : App) (before : Places) (status : Status) (text : List ℕ) (after : Places)
    → IsApplicationFor (is_replay command) bytes app → IsAnswerFor command app before status text after → IsAnswerTo command bytes before status text after
app_due command bytes app before Done text after stands h = record { app = app; stands = stands; output = h }
app_due command bytes app before Lapped text after stands h = record { app = app; stands = stands; output = h }
app_due command bytes app before Misfit text after stands h = record { app = app; stands = stands; output = h }
app_due command bytes app before NoMemory text after stands (written, inl stay) = (written, inl stay)
app_due command bytes app before NoMemory text after stands (written, inr part) =
    (written, inr record { app = app; stands = stands; part = part })
app_due command bytes app before Usage text after stands h = absurd h
app_due command bytes app before ReadFault text after stands h = absurd h
app_due command bytes app before WriteFault text after stands h = absurd h
app_due command bytes app before TooLong text after stands h = absurd h
app_due command bytes app before Malformed text after stands h = absurd h

-- what is due for a refusal is due for the bytes that are refused so
pub refusal_due : (command : Command) (bytes : List ℕ) (refusal : Refusal) (before : Places) (status : Status) (text : List ℕ)
    → IsBundleRefusedFor (is_replay command) bytes refusal → IsRefusalAnswer refusal status text → IsAnswerTo command bytes before status text before
refusal_due command bytes refusal before Malformed text refused h = (record { refusal = refusal; refused = refused; names = h }, refl)
refusal_due command bytes refusal before NoMemory text refused h = (h, inl refl)
refusal_due command bytes refusal before Done text refused h = absurd h
refusal_due command bytes refusal before Lapped text refused h = absurd h
refusal_due command bytes refusal before Misfit text refused h = absurd h
refusal_due command bytes refusal before Usage text refused h = absurd h
refusal_due command bytes refusal before ReadFault text refused h = absurd h
refusal_due command bytes refusal before WriteFault text refused h = absurd h
refusal_due command bytes refusal before TooLong text refused h = absurd h

-- ---- what is due, for the schedule of a command

-- an application with a schedule has one for its tasks
pub has_schedule : (tasks : ℕ) (found : Option Schedule) → is_some found ≡ true → IfSome found (IsSchedule tasks)
    → (schedule : Schedule) × (found ≡ Some schedule) × IsSchedule tasks schedule
has_schedule tasks None e h = absurd (true≢false (sym e))
has_schedule tasks (Some schedule) e h = (schedule, refl, h)

-- bytes stand for an application with replay, or without, as the command says
pub stands_for : (replay : Bool) (command : Command) (bytes : List ℕ) (app : App) → replay ≡ is_replay command → IsApplicationFor replay bytes app
    → IsApplicationFor (is_replay command) bytes app
stands_for replay command bytes app e h = subst (λ r. IsApplicationFor r bytes app) e h

-- the same for a refusal
pub refused_for : (replay : Bool) (command : Command) (bytes : List ℕ) (fail : Fail) (refusal : Refusal) → replay ≡ is_replay command → fail ≡ Refused refusal
    → IsBundleFail replay bytes fail → IsBundleRefusedFor (is_replay command) bytes refusal
refused_for replay command bytes fail refusal e same h =
    subst (λ r. IsBundleRefusedFor r bytes refusal) e (subst (IsBundleFail replay bytes) same h)
