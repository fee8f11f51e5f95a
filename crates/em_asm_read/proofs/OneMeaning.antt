-- From the parts of a line, as they are cut, to what the line says.
use Rattle.std.proofs.Common.{◌≡◌, ◌⊎◌, ℕ, List, Result, Ok, Err, IfOk, IfErr, inl, inr, refl, sym, ap, ◌∙◌}
use Rattle.std.proofs.lemmas.Result.{IfOk-weaker, IfErr-weaker}
use Rattle.std.specs.List.{before_first}
use Rattle.em_asm_read.specs.declared.faults.LineFail.{LineFail}
use Rattle.em_asm_read.specs.declared.faults.LineFail.TheVariants.{Code, NoMemory}
use Rattle.em_asm_read.specs.declared.items.Line.{Line}
use Rattle.em_asm_read.specs.Cutting.{parts_in, parts_of}
use Rattle.em_asm_read.specs.declared.faults.Fault.{Fault}
use Rattle.em_asm_read.specs.Faults.{FailsAs, code_of}
use Rattle.em_asm_read.specs.Lines.{meaning_of, IsLine, IsFaulty, IsLineFail}
use Rattle.em_base.specs.Text.{is_hash, trimmed}
use Rattle.em_asm_read.proofs.Parting.{has-parts, parts-once}

pub is-line : (text code : List ℕ) (r : Result Line LineFail) → code ≡ trimmed (before_first is_hash text) → IfOk r (λ line. meaning_of (parts_in code) ≡ Ok line) → IfOk r (IsLine text)
is-line text code r e h = IfOk-weaker r (λ line. meaning_of (parts_in code) ≡ Ok line) (IsLine text) (λ line k. (parts_of text, has-parts text, ap (λ t. meaning_of (parts_in t)) (sym e) ∙ k)) h

fails : (text code : List ℕ) (fail : LineFail) → code ≡ trimmed (before_first is_hash text) → FailsAs (meaning_of (parts_in code)) fail → IsLineFail text fail
fails text code (Code number) e h = (parts_of text, has-parts text, (h.0, ap (λ t. meaning_of (parts_in t)) (sym e) ∙ h.1, h.2))
fails text code NoMemory e h = tt

pub is-refused : (text code : List ℕ) (r : Result Line LineFail) → code ≡ trimmed (before_first is_hash text) → IfErr r (FailsAs (meaning_of (parts_in code))) → IfErr r (IsLineFail text)
is-refused text code r e h = IfErr-weaker r (FailsAs (meaning_of (parts_in code))) (IsLineFail text) (λ fail k. fails text code fail e k) h

-- ---- a line says one thing, or has one fault

pub line-once : (text : List ℕ) (one other : Line) → IsLine text one → IsLine text other → one ≡ other
line-once text one other h k =
    let same : meaning_of h.0 ≡ meaning_of k.0 = ap meaning_of (parts-once text h.0 k.0 h.1 k.1) in
    let both : Ok one ≡ Ok other = sym h.2 ∙ same ∙ k.2 in
    cc

pub never-both : (text : List ℕ) (line : Line) (code : ℕ) → IsLine text line → IsFaulty text code → ⊥
never-both text line code h k =
    let same : meaning_of h.0 ≡ meaning_of k.0 = ap meaning_of (parts-once text h.0 k.0 h.1 k.1) in
    let both : Ok line ≡ Err k.2.0 = sym h.2 ∙ same ∙ k.2.1 in
    cc

pub fault-once : (text : List ℕ) (one other : ℕ) → IsFaulty text one → IsFaulty text other → one ≡ other
fault-once text one other h k =
    let same : meaning_of h.0 ≡ meaning_of k.0 = ap meaning_of (parts-once text h.0 k.0 h.1 k.1) in
    let both : Err h.2.0 ≡ Err k.2.0 = sym h.2.1 ∙ same ∙ k.2.1 in
    cc

-- ---- a text is a line or has a fault

pub has-meaning : (text : List ℕ) → ((line : Line) × IsLine text line) ⊎ ((code : ℕ) × IsFaulty text code)
has-meaning text = by_meaning (meaning_of (parts_of text)) refl
  where
    by_meaning : (r : Result Line Fault) → meaning_of (parts_of text) ≡ r → ((line : Line) × IsLine text line) ⊎ ((code : ℕ) × IsFaulty text code)
    by_meaning (Ok line) e = inl (line, (parts_of text, has-parts text, e))
    by_meaning (Err fault) e = inr (code_of fault, (parts_of text, has-parts text, (fault, e, refl)))
