-- Which words are a command line that can be run, and the values that they give the options.
use Rattle.std.specs.Prelude.{◌≡◌, ◌<◌, ◌≤◌, ◌⊎◌, ⊤, ℕ, Bool, true, false, List, [], ◌∷◌, ◌++◌, codes, map}
use Rattle.std.specs.Prelude.{◌&&◌, ◌||◌, if◌then◌else◌}
use Rattle.std.specs.List.{AllByRecursion, IsDistinct}
use Rattle.std.specs.Str.{bytes_eq}
use Rattle.std.specs.Str.Parse.{IsNumeral, digits_value, without_leading_plus}
use Rattle.clap.specs.Words.{Text}
use Rattle.terminal_steps.specs.declared.profile.Profile.{Profile}
use Rattle.terminal_steps.specs.declared.profile.Profile.TheVariants.{Plain, Xterm}

-- an option that is given, with its text where it takes one
pub data Setting : Type 0 where
  Width : Text → Setting
  Height : Text → Setting
  Terminal : Text → Setting
  Every : Text → Setting
  Show : Setting
  Live : Setting

abbrev pub name_of : Setting → Text
name_of (Width text) = codes "width"
name_of (Height text) = codes "height"
name_of (Terminal text) = codes "terminal"
name_of (Every text) = codes "every"
name_of Show = codes "show"
name_of Live = codes "live"

-- the words are `--name text`, or the one word `--name=text`
abbrev pub GiveText : Text → Text → List Text → Type 0
GiveText name text words =
    (words ≡ (codes "--" ++ name) ∷ text ∷ []) ⊎ (words ≡ (codes "--" ++ (name ++ (codes "=" ++ text))) ∷ [])

-- the words give the option
abbrev pub Give : Setting → List Text → Type 0
Give (Width text) words = GiveText (codes "width") text words
Give (Height text) words = GiveText (codes "height") text words
Give (Terminal text) words = GiveText (codes "terminal") text words
Give (Every text) words = GiveText (codes "every") text words
Give Show words = words ≡ codes "--show" ∷ []
Give Live words = words ≡ codes "--live" ∷ []

-- the words give these options, one after the other; `--` may follow them
abbrev pub GiveAll : List Setting → List Text → Type 0
GiveAll [] words = (words ≡ []) ⊎ (words ≡ codes "--" ∷ [])
GiveAll (setting ∷ remaining) words =
    (first : List Text) × (rest : List Text) × (words ≡ first ++ rest) × Give setting first × GiveAll remaining rest

-- the number of a text of decimal digits, with or without a plus sign before them
abbrev pub number_of : Text → ℕ
number_of text = digits_value 10 (without_leading_plus text)

-- the text is a number from 1 to `most`
abbrev pub IsNumberTo : ℕ → Text → Type 0
IsNumberTo most text = IsNumeral 10 (without_leading_plus text) × (0 < number_of text) × (number_of text ≤ most)

-- the text is the name of a profile
abbrev pub IsProfile : Text → Type 0
IsProfile text = (text ≡ codes "plain") ⊎ (text ≡ codes "xterm")

-- the option takes the text
abbrev pub IsInRange : Setting → Type 0
IsInRange (Width text) = IsNumberTo 4096 text
IsInRange (Height text) = IsNumberTo 4096 text
IsInRange (Terminal text) = IsProfile text
IsInRange (Every text) = IsNumberTo 4294967295 text
IsInRange Show = ⊤
IsInRange Live = ⊤

-- the columns of the screen, or the default of 80
abbrev pub width_given : List Setting → ℕ
width_given [] = 80
width_given (Width text ∷ remaining) = number_of text
width_given (_ ∷ remaining) = width_given remaining

-- the rows of the screen, or the default of 24
abbrev pub height_given : List Setting → ℕ
height_given [] = 24
height_given (Height text ∷ remaining) = number_of text
height_given (_ ∷ remaining) = height_given remaining

-- the profile of the terminal, or the default, which is plain
abbrev pub profile_given : List Setting → Profile
profile_given [] = Plain
profile_given (Terminal text ∷ remaining) = if bytes_eq text (codes "xterm") then Xterm else Plain
profile_given (_ ∷ remaining) = profile_given remaining

-- after how many bytes an update is written, or the default of 4096
abbrev pub every_given : List Setting → ℕ
every_given [] = 4096
every_given (Every text ∷ remaining) = number_of text
every_given (_ ∷ remaining) = every_given remaining

-- whether the rows are to be shown
abbrev pub show_given : List Setting → Bool
show_given [] = false
show_given (Show ∷ remaining) = true
show_given (_ ∷ remaining) = show_given remaining

-- whether an update is to be written after each read
abbrev pub live_given : List Setting → Bool
live_given [] = false
live_given (Live ∷ remaining) = true
live_given (_ ∷ remaining) = live_given remaining

-- whether `--every` is given
abbrev pub has_every : List Setting → Bool
has_every [] = false
has_every (Every text ∷ remaining) = true
has_every (_ ∷ remaining) = has_every remaining

-- the words, those after the program's name, are a command line that can be run
pub record IsCommandLine (words : List Text) : Type 0 where
  pub settings : List Setting
  pub given : GiveAll settings words
  pub in_range : AllByRecursion IsInRange settings
  -- no option is given twice
  pub once : IsDistinct bytes_eq (map name_of settings)
  -- `--live` is given with neither `--every` nor `--show`
  pub no_conflict : (live_given settings && (has_every settings || show_given settings)) ≡ false
