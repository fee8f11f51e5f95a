-- The trace of a run is that of the plain machine under its schedule.
use Rattle.std.proofs.Common.{◌≡◌, ◌∙◌, sym, ap, subst}
use Rattle.em_base.specs.declared.apps.App.{App}
use Rattle.em_ports.specs.Ports.{Places}
use Rattle.em_gate.specs.Boot.{boot}
use Rattle.em_gate.specs.Events.{events_of}
use Rattle.em_gate.specs.State.{Plain}
use Rattle.em_kernel.specs.Run.{counted_boot, fuel, run_end, run_steps}
use Rattle.em_plain.specs.Runs.{plain_run}
use Rattle.em_sched.specs.Image.{image_beside, image_boot, schedule_of}
use Rattle.em_sched.specs.Traces.{Gives, events_in, lines_in}
use Rattle.em_sched.proofs.Beside.{IsBeside, beside_from, lines_from}
use Rattle.em_sched.proofs.Boot.{beside_boot}
use Rattle.em_sched.proofs.Orderly.{IsSimple}

-- the image at the end of a run
pub at_end : (app : App) (ports : Places) → IsSimple app
    → IsBeside app (boot app ports) (events_in (events_of app)) (run_end app ports) (image_beside app ports (fuel app (counted_boot app ports)))
at_end app ports is =
    beside_from app (boot app ports) (events_in (events_of app)) (fuel app (counted_boot app ports)) (counted_boot app ports) (image_boot app ports) is (beside_boot app ports)

-- the lines of the last state are those of the steps
pub end_lines : (app : App) (ports : Places) → (run_end app ports).plain.lines ≡ lines_in (run_steps app ports)
end_lines app ports = lines_from app (fuel app (counted_boot app ports)) (counted_boot app ports)

pub gives_trace : (app : App) (ports : Places) → IsSimple app → Gives (plain_run app ports (schedule_of app ports)) (lines_in (run_steps app ports))
gives_trace app ports is =
    let beside = at_end app ports is in
    subst (λ went. Gives went (lines_in (run_steps app ports))) (sym beside.comes)
    (ap (λ (p : Plain). p.lines) beside.level.same ∙ end_lines app ports)
