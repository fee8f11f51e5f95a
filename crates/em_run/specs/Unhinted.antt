-- The unhinted source of an application: the same application with no hint anywhere. No command uses the hints yet, but the one that writes
-- them. This project's own.
use Rattle.std.specs.Prelude.{[]}
use Rattle.em_base.specs.declared.apps.App.{App}

abbrev pub unhinted : App → App
unhinted app = record app { hints = record { hints = [] } }
