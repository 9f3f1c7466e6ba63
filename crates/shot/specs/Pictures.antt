-- A screen in one of five forms.
use Rattle.std.specs.Prelude.{ℕ, List, [], ◌∷◌, ◌++◌, codes}
use Rattle.cell_base.specs.Screen.{Screen, screen_text}
use Rattle.screen_formats.specs.Ansi.{ansi_text}
use Rattle.screen_formats.specs.Html.{html_text}
use Rattle.screen_formats.specs.Json.{json_text}
use Rattle.screen_formats.specs.Svg.{svg_text}
use Rattle.shot.specs.declared.format.Format.{Format}
use Rattle.shot.specs.declared.format.Format.TheVariants.{Text, Ansi, Html, Svg, Json}

-- the bytes before the element of a screen, so that a browser reads it as UTF-8
abbrev pub page : List ℕ
page = codes "<!doctype html><meta charset=\"utf-8\">\n"

unfoldable pub picture : Format → Screen → List ℕ
picture Text screen = screen_text screen
picture Ansi screen = ansi_text screen
picture Html screen = page ++ html_text screen
picture Svg screen = svg_text screen
picture Json screen = json_text screen ++ 10 ∷ []

-- what parts a screen from the one before it: an empty line, where screens are rows of text, which are never empty
abbrev pub between : Format → List ℕ
between Text = 10 ∷ []
between Ansi = 10 ∷ []
between Html = []
between Svg = []
between Json = []
