-- Labels stand at addresses of code words.
use Rattle.std.proofs.Common.{◌≡◌, ℕ, suc, ◌+◌, ◌*◌, ◌%◌, Bool, true, false, List, [], ◌∷◌, ◌++◌, Option, Some, None, IfSome, cond, sym, subst, arith}
use Rattle.std.specs.Str.{bytes_eq}
use Rattle.em_asm_read.specs.declared.items.Line.{Line}
use Rattle.em_base.specs.Images.{Labels, address_of}
use Rattle.em_asm.specs.Code.{size_of}
use Rattle.em_asm.specs.Image.{gather, label_at, labels_of}
use Rattle.em_asm.specs.Coding.{AreAligned}

either : (b : Bool) (at : ℕ) (o : Option ℕ) → at % 4 ≡ 0 → IfSome o (λ address. address % 4 ≡ 0) → IfSome (cond b (Some at) o) (λ address. address % 4 ≡ 0)
either true at o h k = h
either false at o h k = k

aligned-more : (label : Option (List ℕ)) (at : ℕ) (rest : Labels) → at % 4 ≡ 0 → AreAligned rest → AreAligned (label_at at label ++ rest)
aligned-more None at rest h k = k
aligned-more (Some name) at rest h k = λ other. either (bytes_eq other name) at (address_of rest other) h (k other)

aligned-from : (lines : List Line) (p at : ℕ) → at % 4 ≡ 0 → AreAligned (gather (λ place at line. label_at at line.label) p at lines)
unfolding gather
aligned-from [] p at h = λ name. tt
aligned-from (line ∷ lines) p at h =
    let next : (at + 4 * size_of line.item) % 4 ≡ 0 = omega (arith, h) in
    aligned-more line.label at (gather (λ place at line. label_at at line.label) (suc p) (at + 4 * size_of line.item) lines) h (aligned-from lines (suc p) (at + 4 * size_of line.item) next)

pub aligned-labels : (found : Labels) (lines : List Line) → found ≡ labels_of lines → AreAligned found
aligned-labels found lines e = subst AreAligned (sym e) (aligned-from lines 0 0 (omega arith))
