-- What a counter stands for: the steps of a run that it has seen.
use Rattle.std.specs.Prelude.{◌≡◌, ℕ, suc, ◌<◌, List, [], ◌∷◌, length, map, slice_index_or, if◌then◌else◌}
use Rattle.em_base.specs.declared.apps.App.{App}
use Rattle.em_base.specs.declared.events.Event.{Event}
use Rattle.em_base.specs.Tables.{IsTable}
use Rattle.em_ports.specs.Ports.{Places}
use Rattle.em_kernel.specs.declared.did.Did.{Did}
use Rattle.em_kernel.specs.declared.did.What.{What}
use Rattle.em_kernel.specs.declared.did.What.TheVariants.{Delivered, Stepped, Idled, Ended}
use Rattle.em_kernel.specs.Kept.{Kept, Stands}
use Rattle.em_kernel.specs.Run.{counted_boot, state_from, steps_from}
use Rattle.em_sched.specs.Image.{Image, image_beside, is_copying}

-- what a counter keeps: the steps of the plain machine so far, the events that were put down, each with the steps before it, and how many
-- events it has a place for
pub record Tally : Type 0 where
  pub count : ℕ
  pub events : List (ℕ × Event)
  pub places : ℕ

-- a step as it is seen: what the kernel did, and what it keeps after that
pub record Sight : Type 0 where
  pub did : Did
  pub kernel : Kept

-- the first steps of the run of an application with these ports are seen so: each is what the step did, with a kernel that stands for the state
-- after it
pub record IsSeen (app : App) (ports : Places) (sights : List Sight) : Type 0 where
  pub did : map (λ sight. sight.did) sights ≡ steps_from app (length sights) (counted_boot app ports)
  pub kernels : (n : ℕ) (other : Sight) → n < length sights → let c = state_from app (suc n) (counted_boot app ports) in
      Stands (slice_index_or sights n other).kernel c.plain.ports c

-- it has the steps and the events of an image
pub record Tracks (tally : Tally) (image : Image) : Type 0 where
  pub count : tally.count ≡ image.count
  pub events : tally.events ≡ image.events

-- it stands for steps that were seen: it has the steps and the events of the image beside every run of the application that is seen so
abbrev pub StandsFor : App → Tally → List Sight → Type 0
StandsFor app tally sights =
    IsTable app.table → app.hints.hints ≡ [] → (ports : Places) → IsSeen app ports sights
    → Tracks tally (image_beside app ports (length sights))

-- the event that a step delivers, with the steps before it
abbrev pub put_by : What → ℕ → List (ℕ × Event)
put_by (Delivered event) count = (count, event) ∷ []
put_by (Stepped t kind) count = []
put_by Idled count = []
put_by (Ended cause) count = []

-- how many steps of the plain machine a step is, where no image is ahead
abbrev pub steps_by : What → ℕ
steps_by (Delivered event) = 0
steps_by (Stepped t kind) = if is_copying kind then 0 else 1
steps_by Idled = 0
steps_by (Ended cause) = 0
