-- The bytes of a text that is written, and the answers to an application and to a refusal.
use Rattle.std.specs.Prelude.{◌≡◌, ◌⊎◌, ℕ, List, string_bytes, codes}
use Rattle.em_base.specs.declared.apps.App.{App}
use Rattle.em_base.specs.declared.refusals.Refusal.{Refusal}
use Rattle.em_run.specs.declared.answer.Text.{Text}
use Rattle.em_run.specs.declared.answer.Text.TheVariants.{Fixed, Made}
use Rattle.em_ports.specs.Ports.{Places}
use Rattle.em_run.specs.declared.commands.Command.{Command}
use Rattle.em_run.specs.declared.status.Status.{Status}
use Rattle.em_run.specs.declared.status.Status.TheVariants.{Done, Malformed, Lapped, Misfit, NoMemory}
use Rattle.em_run.specs.Output.{IsOutput, IsPartOf, refusal_text}

-- the bytes of a text
abbrev pub text_bytes : Text → List ℕ
text_bytes (Fixed text) = text.now
text_bytes (Made text) = string_bytes text

-- the answer names the refusal, unless memory ran out
abbrev pub IsRefusalAnswer : Refusal → Status → List ℕ → Type 0
IsRefusalAnswer refusal Malformed text = text ≡ refusal_text refusal.code refusal.line
IsRefusalAnswer refusal NoMemory text = text ≡ codes "error memory\n"
IsRefusalAnswer refusal _ text = ⊥

-- the answer is the output of the command on the application, unless memory ran out
abbrev pub IsAnswerFor : Command → App → Places → Status → List ℕ → Places → Type 0
IsAnswerFor command app before Done text after = IsOutput command app before Done text after
IsAnswerFor command app before Lapped text after = IsOutput command app before Lapped text after
IsAnswerFor command app before Misfit text after = IsOutput command app before Misfit text after
IsAnswerFor command app before NoMemory text after =
    (text ≡ codes "error memory\n") × ((after ≡ before) ⊎ IsPartOf command app before after)
IsAnswerFor command app before _ text after = ⊥
