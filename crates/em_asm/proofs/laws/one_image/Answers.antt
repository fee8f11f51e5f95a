use Rattle.em_asm.proofs.OneImage.{image-once, image-or_refusal, never-both, refusal-once}
use Rattle.em_asm.proofs.laws.one_image.Goals as goal

pub returns : goal.returns
returns c = record { some = image-or_refusal; image = image-once; refusal = refusal-once; either = never-both }
