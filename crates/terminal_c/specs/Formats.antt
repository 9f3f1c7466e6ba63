-- The screen in the formats of files.
use Rattle.std.specs.Prelude.{ℕ, ◌==◌, List, if◌then◌else◌}
use Rattle.cell_base.specs.Screen.{Screen}
use Rattle.screen_formats.specs.Ansi.{ansi_text}
use Rattle.screen_formats.specs.Html.{html_text}
use Rattle.screen_formats.specs.Json.{json_text}
use Rattle.screen_formats.specs.Svg.{svg_text}

-- how many formats there are
abbrev pub format_count : ℕ
format_count = 4

-- a screen in the format of a number: 0 rows with control sequences, 1 HTML, 2 SVG, 3 JSON
unfoldable pub screen_in : ℕ → Screen → List ℕ
screen_in format screen =
    if format == 0 then ansi_text screen
    else if format == 1 then html_text screen
    else if format == 2 then svg_text screen
    else json_text screen
