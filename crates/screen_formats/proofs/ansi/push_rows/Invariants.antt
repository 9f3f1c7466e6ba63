use Rattle.std.proofs.Common.{◌≡◌, ◌++◌, map, take}
use Rattle.std.specs.String.{string_bytes}
use Rattle.cell_surface.specs.Surface.{shown_by}
use Rattle.screen_formats.specs.Ansi.{ansi_rows}
use Rattle.screen_formats.proofs.ansi.push_rows.Given as goal

-- the rows so far are written
abbrev pub invariant-loop-row : goal.invariant-loop-row
invariant-loop-row g l = string_bytes l.out ≡ string_bytes l.initial.out ++ ansi_rows (shown_by l.surface).screen 0 (map (λ line. line.columns) (take l.row l.lines))
