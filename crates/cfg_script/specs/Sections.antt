-- Variables and sections.
use Rattle.std.specs.Prelude.{ℕ, List, Option, Some, None}
use Rattle.serde_json.specs.Data.{Data, null, boolean, number, string, array, object}
use Rattle.cfg_base.specs.Text.{characters}
use Rattle.cfg_types.specs.declared.environment.EnvText.{EnvText}
use Rattle.cfg_types.specs.declared.environment.EnvText.TheVariants.{Text, NotUnicode}
use Rattle.cfg_script.specs.Script.{Property, Section}
use Rattle.cfg_script.specs.Forms.{Form, whole_form, list_of, pair_of}
use Rattle.cfg_script.specs.Scalars.{text}
use Rattle.cfg_script.specs.declared.fault.Wanted.TheVariants as wanted

-- a text, or null for a value that is not Unicode
abbrev pub env_text_from : Data → Option EnvText
env_text_from null = Some NotUnicode
env_text_from (boolean b) = None
env_text_from (number n) = None
env_text_from (string s) = Some (Text (characters s))
env_text_from (array ds) = None
env_text_from (object ms) = None

abbrev pub env_text : Form EnvText
env_text = whole_form wanted.TextOrNull env_text_from

-- a variable: [name, text], or [name, null]
abbrev pub variable : Form (List ℕ × EnvText)
variable = pair_of wanted.Variable text env_text

-- a property: [key, value]
abbrev pub property_form : Form Property
property_form = pair_of wanted.Property text text

-- a section: [name, list of properties]
abbrev pub section : Form Section
section = pair_of wanted.Section text (list_of property_form)
