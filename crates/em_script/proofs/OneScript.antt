-- Lines are a script of one list of events, or have one refusal, and never both.
use Rattle.std.proofs.Common.{◌≡◌, ℕ, ◌+◌, List, length, inl, inr, ◌⊎◌, refl, sym, ◌∙◌}
use Rattle.em_base.proofs.FirstFaults.{clear_or_first, clear_or_refused, found_or_none, one_found, one_refusal}
use Rattle.em_base.specs.declared.events.Timed.{Timed}
use Rattle.em_base.specs.declared.refusals.Refusal.{Refusal}
use Rattle.em_base.specs.declared.tables.TaskRow.{TaskRow}
use Rattle.em_base.specs.FirstFault.{by_test}
use Rattle.em_script.specs.Script.{IsScriptRefused, IsScriptOf, code_of, events_of, line_fault}

-- the events of a script are one list
pub one_list : (rows : List TaskRow) (lines : List (List ℕ)) (one other : List Timed)
    → IsScriptOf rows lines one → IsScriptOf rows lines other → one ≡ other
one_list rows lines one other a b = a.same ∙ sym b.same

-- the refusal of lines is one
pub one_script_refusal : (first : ℕ) (rows : List TaskRow) (lines : List (List ℕ)) (one other : Refusal)
    → IsScriptRefused first rows lines one → IsScriptRefused first rows lines other → one ≡ other
one_script_refusal first rows lines one other a b =
    one_refusal (by_test (line_fault rows)) code_of (λ place. first + place) lines one other (one_found (line_fault rows)) a b

-- lines of a script have no refusal
pub script_or_refused : (first : ℕ) (rows : List TaskRow) (lines : List (List ℕ)) (events : List Timed) (refusal : Refusal)
    → IsScriptOf rows lines events → IsScriptRefused first rows lines refusal → ⊥
script_or_refused first rows lines events refusal s r =
    clear_or_refused (by_test (line_fault rows)) code_of (λ place. first + place) lines refusal s.clear r

-- lines are a script or have a refusal
pub some_answer : (first : ℕ) (rows : List TaskRow) (lines : List (List ℕ))
    → ((events : List Timed) × IsScriptOf rows lines events) ⊎ ((refusal : Refusal) × IsScriptRefused first rows lines refusal)
some_answer first rows lines = elim (clear_or_first (by_test (line_fault rows)) lines (length lines) (found_or_none (line_fault rows))) [
  | inl clear ↦ inl (events_of rows lines, record { clear = clear; same = refl })
  | inr found ↦
      let refusal : Refusal = record { code = code_of found.1; line = first + found.0 } in
      inr (refusal, record { place = found.0; fault = found.1; first = found.2; coded = refl; placed = refl })
]
