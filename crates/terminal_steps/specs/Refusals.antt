-- The refusals of a surface and of a parser's call, as those of a terminal.
use Rattle.cell_surface.specs.declared.error.SurfaceError.{SurfaceError}
use Rattle.cell_surface.specs.declared.error.SurfaceError.TheVariants as surface
use Rattle.escape_stream.specs.declared.perform.Halted.{Halted}
use Rattle.escape_stream.specs.declared.perform.Halted.TheVariants as halted
use Rattle.terminal_steps.specs.declared.error.TerminalError.{TerminalError}
use Rattle.terminal_steps.specs.declared.error.TerminalError.TheVariants.{Failed, Number, Memory}

abbrev pub of_surface : SurfaceError → TerminalError
of_surface surface.Failed = Failed
of_surface surface.Number = Number
of_surface surface.Memory = Memory

abbrev pub of_halted : Halted SurfaceError → TerminalError
of_halted halted.Failed = Failed
of_halted halted.Memory = Memory
of_halted (halted.Refused error) = of_surface error
