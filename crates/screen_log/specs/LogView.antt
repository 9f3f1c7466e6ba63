-- What a `ChangeLog` holds.
use Rattle.std.specs.List.{All}
use Rattle.std.specs.Prelude.{◌≡◌, ◌≤◌, ◌+◌, Bool, true, false, length, map, drop, take, is_some}
use Rattle.cell_base.specs.declared.attribute_change.AttributeChange.TheVariants.{Hyperlink}
use Rattle.screen_change.specs.ValueOf.{value_of}
use Rattle.screen_change.specs.declared.change.Change.{Change}
use Rattle.screen_change.specs.declared.change.Change.TheVariants.{Attribute, AllAttributes, Text, Title}
use Rattle.screen_log.specs.LogSteps.{Sized}
use Rattle.screen_log.specs.declared.change_log.ChangeLog.TheInside.{Inside}

-- whether a change owns memory: that of a text, a title or a link
abbrev pub owns_memory : Change → Bool
owns_memory (Attribute (Hyperlink link)) = is_some link
owns_memory (AllAttributes attributes) = is_some attributes.hyperlink
owns_memory (Text text) = true
owns_memory (Title text) = true
owns_memory change = false

abbrev pub OwnsNothing : Change → Type 0
OwnsNothing change = owns_memory change ≡ false

-- the changes after the slots of the dropped ones
abbrev pub log_of : Inside → Sized
log_of a =
    record { most = a.most; log = record { number = a.number; entries = map value_of (drop a.start a.changes.items) } }

-- At most as many changes are kept as may be due, each of them has a number, and at most as many slots are before them.
-- Dropped changes own no memory, except at most 64 KB of texts' memory, for later texts.
pub record IsBounded (a : Inside) : Type 0 where
  pub half_dropped : a.start + a.start ≤ length a.changes.items
  pub kept : length a.changes.items ≤ a.start + a.most
  pub numbered : length a.changes.items ≤ a.start + a.number
  pub dropped : All OwnsNothing (take a.start a.changes.items)
  pub pool : a.pool ≤ 65536
