-- What is expected of the ports.
use Rattle.std.specs.Prelude.{◌≡◌, ℕ, ⊤, List, [], ◌∷◌}

-- the ports show the text that is expected, or none is
abbrev pub AreAsExpected : List ℕ → List ℕ → Type 0
AreAsExpected [] found = ⊤
AreAsExpected (byte ∷ bytes) found = found ≡ byte ∷ bytes
