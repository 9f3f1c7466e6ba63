-- Surfaces whose changes all have an encoding.
use Rattle.std.specs.Prelude.{◌≡◌, ◌<◌, ◌^◌, false, None}
use Rattle.cell_base.specs.Screen.{height}
use Rattle.cell_surface.specs.Surface.{Surface, shown_by}
use Rattle.terminal_render.specs.Spelling.{HaveEncodings, IsSpelledScreen}

-- the surface hasn't failed, its width and height are less than 2^32, no shape of the cursor was set, and its screen
-- and the changes that its log keeps have an encoding
pub record CanBeEncoded {W : Type 0} (surface : Surface W) : Type 0 where
  pub stays : surface.is_failed ≡ false
  pub wide : (shown_by surface).screen.width < 2 ^ 32
  pub tall : height (shown_by surface).screen < 2 ^ 32
  pub shapeless : (shown_by surface).shape ≡ None
  pub spelled : IsSpelledScreen (shown_by surface).screen
  pub kept : HaveEncodings (shown_by surface).screen.width (height (shown_by surface).screen) surface.log.log.entries
