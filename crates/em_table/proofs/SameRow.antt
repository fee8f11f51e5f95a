-- Rows of a table that are the same key by key.
use Rattle.std.proofs.Common.{◌≡◌, ℕ, List, [], ◌∷◌, map, Option, refl, ap}
use Rattle.em_base.specs.declared.ids.SemId.{SemId}
use Rattle.em_base.specs.declared.tables.Kind.{Kind}
use Rattle.em_base.specs.declared.tables.TaskRow.{TaskRow}
use Rattle.em_table.specs.Reading.{numbers_of}

-- semaphores by their numbers
pub semaphores_by_number : (semaphores : List SemId) → map (λ s. record { 0 = s }) (numbers_of semaphores) ≡ semaphores
semaphores_by_number [] = refl
semaphores_by_number (semaphore ∷ semaphores) = ap (λ rest. semaphore ∷ rest) (semaphores_by_number semaphores)

-- tasks that are the same key by key
pub same_row : {name entry name' entry' : List ℕ} {kind kind' : Kind} {period deadline cost line band period' deadline' cost' line' band' : Option ℕ}
    {phase section writes phase' section' writes' : ℕ} {uses uses' : List SemId}
    → name ≡ name' → entry ≡ entry' → kind ≡ kind' → period ≡ period' → phase ≡ phase' → deadline ≡ deadline' → cost ≡ cost'
    → section ≡ section' → writes ≡ writes' → uses ≡ uses' → line ≡ line' → band ≡ band'
    → ◌≡◌ {A = TaskRow}
    (record { name = name; entry = entry; kind = kind; period = period; phase = phase; deadline = deadline; cost = cost; section = section; writes = writes; uses = uses; line = line; band = band })
    (record { name = name'; entry = entry'; kind = kind'; period = period'; phase = phase'; deadline = deadline'; cost = cost'; section = section'; writes = writes'; uses = uses'; line = line'; band = band' })
same_row a b c d e f g h i j k l = rw (a, b, c, d, e, f, g, h, i, j, k, l) refl
