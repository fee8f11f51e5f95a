-- What is written reads back: this project's own.
use Rattle.std.specs.Prelude.{◌≡◌, ℕ, List, Option, Some, None}
use Rattle.em_isa.specs.declared.instructions.Instr.TheVariants.{Branch as BranchBy, Jal as JalBy}
use Rattle.em_isa.specs.Encoding.{word_of}
use Rattle.em_asm_read.specs.declared.items.Item.{Item}
use Rattle.em_asm_read.specs.declared.items.Item.TheVariants.{One, Branch, Jal, Raw}
use Rattle.em_asm_read.specs.declared.items.Line.{Line}
use Rattle.em_asm_read.specs.declared.items.Target.TheVariants.{Offset}
use Rattle.em_asm_read.specs.Lines.{IsLine}

-- the code word of a statement that is one word and names no label; a target is its offset
abbrev pub one_word : Item → Option ℕ
one_word (One instruction) = Some (word_of instruction)
one_word (Branch op rs1 rs2 (Offset offset)) = Some (word_of (BranchBy op rs1 rs2 offset))
one_word (Jal rd (Offset offset)) = Some (word_of (JalBy rd offset))
one_word (Raw word) = Some word
one_word _ = None

-- the text is a line without a label, whose statement has this one code word
pub record ReadsBack (text : List ℕ) (word : ℕ) : Type 0 where
  pub line : Line
  pub read : IsLine text line
  pub unlabelled : line.label ≡ None
  pub word_is : one_word line.item ≡ Some word
