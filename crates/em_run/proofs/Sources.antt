-- The ports that a run of the unhinted source leaves.
use Rattle.std.proofs.Common.{◌≡◌, ◌⊎◌, ℕ, inl, inr, subst, sym}
use Rattle.em_base.specs.declared.apps.App.{App}
use Rattle.em_ports.specs.Ports.{Places}
use Rattle.em_run.specs.declared.commands.Command.{Command}
use Rattle.em_run.specs.declared.commands.Command.TheVariants.{Run, Trial, Bench}
use Rattle.em_run.specs.Output.{IsPartOf}
use Rattle.em_run.specs.Runs.{ArePartWay}
use Rattle.em_run.specs.Unhinted.{unhinted}

-- those after a part of a run of it are those after a part of what the command runs
part_of_command : (command : Command) (app source : App) (before after : Places) → (one : Command) → command ≡ one
    → (ArePartWay (unhinted app) before after → IsPartOf one app before after) → source ≡ unhinted app → ArePartWay source before after
    → (after ≡ before) ⊎ IsPartOf command app before after
part_of_command command app source before after one e is same part =
    inr (subst (λ c. IsPartOf c app before after) (sym e) (is (subst (λ s. ArePartWay s before after) same part)))

-- of a run or a trial
pub part_of_run : (command : Command) (app source : App) (before after : Places) → (command ≡ Run) ⊎ (command ≡ Trial) → source ≡ unhinted app
    → ArePartWay source before after → (after ≡ before) ⊎ IsPartOf command app before after
part_of_run command app source before after (inl e) same part = part_of_command command app source before after Run e (λ p. p) same part
part_of_run command app source before after (inr e) same part = part_of_command command app source before after Trial e (λ p. p) same part

-- of a bench
pub part_of_bench : (command : Command) (app source : App) (before after : Places) (n : ℕ) → command ≡ Bench n → source ≡ unhinted app
    → ArePartWay source before after → (after ≡ before) ⊎ IsPartOf command app before after
part_of_bench command app source before after n e same part = part_of_command command app source before after (Bench n) e (λ p. p) same part
