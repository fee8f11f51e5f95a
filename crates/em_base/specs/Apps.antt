-- What holds of each application: this project's own.
use Rattle.std.specs.Prelude.{◌≡◌, Bool, true, is_some, List}
use Rattle.std.specs.List.{list_all}
use Rattle.em_base.specs.declared.apps.App.{App}
use Rattle.em_base.specs.declared.images.Image.{Image}
use Rattle.em_base.specs.declared.tables.TaskRow.{TaskRow}
use Rattle.em_base.specs.Events.{IsScript}
use Rattle.em_base.specs.Hints.{AreHints}
use Rattle.em_base.specs.Images.{IsWhole, address_of}
use Rattle.em_base.specs.Tables.{IsTable}

-- each task starts at a label of the image
abbrev pub have_entries : Image → List TaskRow → Bool
have_entries image rows = list_all (λ row. is_some (address_of image.labels row.entry)) rows

-- its table, image, hints and script are ones that there may be, and each task starts at a label of the code
pub record IsApp (app : App) : Type 0 where
  pub table : IsTable app.table
  pub image : IsWhole app.image
  pub entries : have_entries app.image app.table.tasks ≡ true
  pub hints : AreHints app.table.semaphores app.image.waits app.hints
  pub script : IsScript app.table.tasks app.script
