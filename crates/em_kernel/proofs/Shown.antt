-- Views are the same where their fields are.
use Rattle.std.proofs.Common.{◌≡◌, ◌∙◌, ℕ, Bool, Option, ap}
use Rattle.em_base.specs.declared.ids.SemId.{SemId}
use Rattle.em_base.specs.declared.jobs.Key.{Key}
use Rattle.em_base.specs.declared.jobs.Status.{Status}
use Rattle.em_kernel.specs.declared.did.View.{View}

-- a view by its fields
abbrev made : Status → Option SemId → Bool → Key → ℕ → View
made status promise stopped key pc = record { status = status; promise = promise; stopped = stopped; key = key; pc = pc }

pub same_view : {status status' : Status} {promise promise' : Option SemId} {stopped stopped' : Bool} {key key' : Key} {pc pc' : ℕ}
    → status ≡ status' → promise ≡ promise' → stopped ≡ stopped' → key ≡ key' → pc ≡ pc'
    → made status promise stopped key pc ≡ made status' promise' stopped' key' pc'
same_view {status} {status'} {promise} {promise'} {stopped} {stopped'} {key} {key'} {pc} {pc'} s p b k c =
    ap (λ x. made x promise stopped key pc) s
    ∙ ap (λ x. made status' x stopped key pc) p
    ∙ ap (λ x. made status' promise' x key pc) b
    ∙ ap (λ x. made status' promise' stopped' x pc) k
    ∙ ap (λ x. made status' promise' stopped' key' x) c
