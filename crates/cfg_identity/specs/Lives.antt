-- How long credentials are held, and what is held after a chain's answer.
use Rattle.std.specs.Prelude.{◌≡◌, ◌⊎◌, ◌+ℤ◌, true, Bool, is_ok, Option, Some, None, Result, Ok, Err, if◌then◌else◌}
use Rattle.std.specs.Int.{int_min}
use Rattle.cfg_base.specs.Instant.{number, last_number, nanos_in, is_later_by}
use Rattle.cfg_base.specs.Moment.{Moment}
use Rattle.cfg_types.specs.Classes.{is_memory}
use Rattle.cfg_types.specs.Keys.{Keys}
use Rattle.cfg_types.specs.declared.errors.CredentialsError.{CredentialsError}
use Rattle.cfg_identity.specs.declared.held.Held.{Held}
use Rattle.cfg_identity.specs.declared.settings.CacheSettings.{CacheSettings}

-- The end of the life of credentials with this expiry, whose call began with this reading: the expiry, or where
-- there is none so many seconds after the reading, at most the last moment of all.
abbrev pub IsEnd : CacheSettings → Option Moment → Moment → Moment → Type 0
IsEnd settings (Some expiry) now end = end ≡ expiry
IsEnd settings None now end = number end ≡ int_min (number now +ℤ nanos_in settings.default_life_seconds) last_number

-- more seconds of a life are left at a reading than the buffer
abbrev pub has_time_left : CacheSettings → Moment → Moment → Bool
has_time_left settings life now = is_later_by life now settings.buffer_seconds

-- what is held, where enough of its life is left
abbrev pub lasting : CacheSettings → Option Held → Moment → Option Held
lasting settings None now = None
lasting settings (Some held) now = if has_time_left settings held.life now then Some held else None

-- What is held after a chain's answer to a call that began with this reading: credentials to the end of their
-- life. After an error it is what was held.
abbrev pub IsHeld : CacheSettings → Moment → Result Keys CredentialsError → Option Held → Option Held → Type 0
IsHeld settings now (Ok keys) old new = (held : Held) × (held.credentials ≡ keys) × IsEnd settings keys.expiry now held.life × (new ≡ Some held)
IsHeld settings now (Err e) old new = new ≡ old

-- The answer is told as it is, and held.
abbrev pub Holds : CacheSettings → Moment → Result Keys CredentialsError → Option Held → Option Held → Result Keys CredentialsError → Type 0
Holds settings now outcome old new told = (told ≡ outcome) × IsHeld settings now outcome old new

-- Memory ran out: in the chain's call, or behind one that gave credentials.
abbrev pub HoldsNot : Result Keys CredentialsError → Option Held → Option Held → Type 0
HoldsNot outcome old new = (new ≡ old) × ((is_memory outcome ≡ true) ⊎ (is_ok outcome ≡ true))
