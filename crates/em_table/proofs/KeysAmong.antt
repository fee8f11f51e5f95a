-- The keys of a map beside those of its members.
use Rattle.std.proofs.Common.{◌≡◌, ◌∙◌, ℕ, List, [], ◌∷◌, refl, ap, String, Bor}
use Rattle.std.specs.List.{list_all}
use Rattle.std.specs.Map.{keys_of}
use Rattle.std.specs.Str.{bytes_eq}
use Rattle.std.specs.String.{string_bytes}
use Rattle.std.specs.declared.alloc.Global.{Global}
use Rattle.toml.specs.View.{members_view}
use Rattle.toml.specs.declared.value.Value.{Value}
use Rattle.em_base.specs.Text.{texts_of}
use Rattle.em_table.specs.Reading.{is_allowed}
use Rattle.em_table.specs.Values.{are_among}
use Rattle.em_table.proofs.MappedTests.{any-map}
use mathlib.Core.Bool.{◌&&◌}

-- each key is one of these texts
pub are_among-keys : (texts : List (Bor (List ℕ))) (entries : List (String Global × Value))
    → list_all (is_allowed texts) (keys_of entries) ≡ are_among (texts_of texts) (members_view entries)
are_among-keys texts [] = refl
are_among-keys texts (entry ∷ entries) =
    ap (λ b. is_allowed texts entry.0 && b) (are_among-keys texts entries)
    ∙ ap (λ b. b && are_among (texts_of texts) (members_view entries)) (any-map (bytes_eq (string_bytes entry.0)) (λ text. text.now) texts)
