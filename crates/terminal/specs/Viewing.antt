-- Viewers: terminals that show the screen of another terminal.
use Rattle.std.specs.Prelude.{◌≡◌, ℕ, false, List, None, length}
use Rattle.cell_base.specs.Screen.{Screen}
use Rattle.screen_change.specs.ChangeValue.{ChangeValue}
use Rattle.escape_stream.specs.StreamActions.{stream_actions}
use Rattle.terminal.specs.Terminal.{Terminal, IsIdle, state_in}
use Rattle.terminal_viewers.specs.Patch.{patch_of}
use Rattle.terminal_render.specs.EncodedSizes.{prints_in}
use Rattle.terminal_viewers.specs.Shows.{Shows}
use Rattle.terminal_table.specs.Meaning.{View}
use Rattle.terminal_viewers.specs.Update.{update_changes, update_of}
use Rattle.terminal_viewers.specs.Updates.{Standing}

-- the bytes that bring a viewer up to date that has seen the changes before a number
abbrev pub update_for : {W : Type 0} → Terminal W → ℕ → List ℕ
update_for t number = update_of (state_in t).screen t.surface.log number

-- the changes of that update
abbrev pub changes_for : {W : Type 0} → Terminal W → ℕ → List ChangeValue
changes_for t number = update_changes (state_in t).screen t.surface.log number

-- the bytes that bring a viewer up to date that shows the screen of the terminal `shown`
abbrev pub patch_from : {W : Type 0} → Terminal W → Terminal W → List ℕ
patch_from t shown = patch_of (state_in shown).screen (state_in t).screen

-- A viewer can read the patch of the terminal `t` from the screen of `shown`: it is a plain terminal, it and `t`
-- haven't failed, it has nothing unfinished and no held run, both measure widths alike, they have one size, and it
-- shows the screen of `shown`.
pub record CanReadFrom {W : Type 0} (width_of : W → List ℕ → ℕ) (t viewer shown : Terminal W) : Type 0 where
  pub sound : t.is_failed ≡ false
  pub reads : viewer.is_failed ≡ false
  pub plain : viewer.modes ≡ None
  pub idle : IsIdle viewer
  pub widths : width_of viewer.surface.grid.widths ≡ width_of t.surface.grid.widths
  pub wide : viewer.surface.grid.width ≡ t.surface.grid.width
  pub tall : length viewer.surface.grid.lines ≡ length t.surface.grid.lines
  pub shows : (state_in viewer).screen ≡ (state_in shown).screen

-- the standing of a terminal at a view
abbrev pub standing_of : {W : Type 0} → Terminal W → View → Standing
standing_of t view = record { view = view; log = t.surface.log }

-- the text that is printed when the update for a number is read
abbrev pub update_prints : {W : Type 0} → Terminal W → ℕ → List ℕ
update_prints t number = prints_in (stream_actions (update_for t number))

-- a screen shows a terminal at a number
abbrev pub ShowsAt : {W : Type 0} → (W → List ℕ → ℕ) → Screen → ℕ → Terminal W → Type 0
ShowsAt width_of shown number t = Shows (width_of t.surface.grid.widths) shown number (state_in t).screen t.surface.log

-- A viewer can read the update of a terminal for a number: neither has failed, the viewer is a plain terminal with
-- nothing unfinished and no held run, both measure widths alike, and the viewer's screen shows the terminal at that
-- number.
pub record CanReadSince {W : Type 0} (width_of : W → List ℕ → ℕ) (t viewer : Terminal W) (number : ℕ) : Type 0 where
  pub sound : t.is_failed ≡ false
  pub reads : viewer.is_failed ≡ false
  pub plain : viewer.modes ≡ None
  pub idle : IsIdle viewer
  pub widths : width_of viewer.surface.grid.widths ≡ width_of t.surface.grid.widths
  pub shows : ShowsAt width_of (state_in viewer).screen number t
