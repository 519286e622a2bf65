-- The bytes of values, periods and keys.
use Rattle.std.specs.Prelude.{ℕ, List, [], ◌∷◌, ◌++◌, length, if◌then◌else◌, ◌==◌, codes, Option, None, Some}
use Rattle.std.specs.List.{flat_map}
use Rattle.std.specs.Fmt.{signed_decimal}
use Rattle.wm_base.specs.Period.{Span}
use Rattle.wm_base.specs.declared.value.Value.{Value}
use Rattle.wm_base.specs.declared.value.Value.TheVariants
use Rattle.wm_instants.specs.Texts.{instant_text}

-- a byte of a text between quotes: a quote stands twice
abbrev pub doubled : ℕ → List ℕ
doubled b = if b == 39 then 39 ∷ 39 ∷ [] else b ∷ []

-- a text between quotes
unfoldable pub quoted : List ℕ → List ℕ
quoted text = codes "'" ++ (flat_map doubled text ++ codes "'")

-- a period with its ends
unfoldable pub period_text : Span → List ℕ
period_text p = codes "[" ++ (instant_text p.from ++ (codes ", " ++ (instant_text p.till ++ codes ")")))

abbrev pub value_text : Value → List ℕ
value_text TheVariants.Null = codes "NULL"
value_text (TheVariants.Num n) = signed_decimal n
value_text (TheVariants.Text t) = quoted t
value_text (TheVariants.Time i) = instant_text i
value_text (TheVariants.Span p) = period_text p

-- values, each behind a separator
abbrev pub more : List ℕ → List Value → List ℕ
more separator [] = []
more separator (v ∷ vs) = separator ++ (value_text v ++ more separator vs)

-- values with a separator between
abbrev pub joined : List ℕ → List Value → List ℕ
joined separator [] = []
joined separator (v ∷ vs) = value_text v ++ more separator vs

-- a key: its one value, or its values in brackets
unfoldable pub key_text : List Value → List ℕ
key_text key = if length key == 1 then joined (codes ", ") key else codes "(" ++ (joined (codes ", ") key ++ codes ")")

-- a blank and the period, where there is one
abbrev pub perhaps_period : Option Span → List ℕ
perhaps_period None = []
perhaps_period (Some p) = codes " " ++ period_text p

-- a key, and the period on which it is meant, where there is one
abbrev pub place_text : List Value → Option Span → List ℕ
place_text key period = key_text key ++ perhaps_period period
