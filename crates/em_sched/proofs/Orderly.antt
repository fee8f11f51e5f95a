-- What every step of the counted machine keeps in an application without hints.
use Rattle.std.proofs.Common.{◌≡◌, ℕ, ◌<◌, ◌≤◌, ◌∙◌, [], All, length, sym, ap, subst, refl}
use Rattle.em_base.specs.declared.apps.App.{App}
use Rattle.em_gate.specs.Calls.{words_of}
use Rattle.em_gate.specs.State.{Counted, Plain}
use Rattle.em_sched.specs.Agreement.{AreCopies}
use Rattle.em_sched.proofs.Bare.{Bare}
use Rattle.em_sched.proofs.Copies.{copies_same}
use Rattle.em_sched.proofs.Flat.{flat, settle_count, settle_status}
use Rattle.em_sched.proofs.Keeping.{IsWorking}
use Rattle.em_sched.proofs.Owned.{Owned, owned_like}
use Rattle.em_sched.proofs.Published.{AreValued}

-- what an application has here: no hints, no more semaphores than a set of them holds, and a word or more in each message
pub record IsSimple (app : App) : Type 0 where
  pub hints : app.hints.hints ≡ []
  pub few : app.table.semaphores ≤ 32
  pub words : (m : ℕ) → m < length app.table.messages → 0 < words_of app.table m

-- nothing is promised, and what owners, jobs, copies and values keep is so
pub record IsOrderly (app : App) (c : Counted) : Type 0 where
  pub bare : Bare c.promises
  pub owned : Owned c.plain
  pub working : All IsWorking c.plain.tasks
  pub tasks : length c.plain.tasks ≡ length app.table.tasks
  pub semaphores : length c.plain.owners ≡ app.table.semaphores
  pub copies : AreCopies app c
  pub valued : AreValued c.plain.values

-- the same in a state with the same parts
pub orderly_same : (app : App) (c c' : Counted) → c'.plain ≡ c.plain → c'.promises ≡ c.promises → c'.copies ≡ c.copies → IsOrderly app c
    → IsOrderly app c'
orderly_same app c c' plain promises copies h = record {
  bare = subst Bare (sym promises) h.bare;
  owned = subst Owned (sym plain) h.owned;
  working = subst (λ (p : Plain). All IsWorking p.tasks) (sym plain) h.working;
  tasks = ap (λ (p : Plain). length p.tasks) plain ∙ h.tasks;
  semaphores = ap (λ (p : Plain). length p.owners) plain ∙ h.semaphores;
  copies = copies_same app c c' plain promises copies h.copies;
  valued = subst (λ (p : Plain). AreValued p.values) (sym plain) h.valued;
}

-- what owners keep is so of the settled state
pub owned_flat : (app : App) (c : Counted) → IsOrderly app c → Owned (flat c)
owned_flat app c h =
    owned_like c.plain (flat c) (settle_count c.plain.values c.plain.tasks c.copies) (settle_status c.plain.values c.plain.tasks c.copies) refl h.owned
