-- What a process's document says, by its grammar.
use Rattle.std.proofs.Common.{◌≡◌, ℕ, List, Option, false, refl, ap, ◌∙◌}
use Rattle.std.specs.Prelude.{Err}
use Rattle.cfg_types.specs.Keys.{Keys}
use Rattle.cfg_types.specs.Field.{field_name}
use Rattle.cfg_types.specs.declared.document.Field.TheVariants as field
use Rattle.cfg_types.specs.declared.document.InvalidJsonCredentials.TheVariants as invalid
use Rattle.cfg_json.specs.Lookups.{last_number}
use Rattle.cfg_json.specs.Documents.{Read, process_of, AnswersDocument, IsProcessTable, is_memory}
use Rattle.cfg_json.specs.declared.member.Member.{Member}
use Rattle.cfg_json.proofs.DocumentLaws.{process_fields}
use Rattle.cfg_json.proofs.SaidLaws as laws
use Rattle.cfg_providers.specs.ProcessDocuments.{version, process_table, process_document}
use Rattle.cfg_providers.proofs.Versions.{version_is, is_version}

-- the table has one answer
table_is : (account : Option (List ℕ)) (ms : List Member) (r : Read Keys) → IsProcessTable account ms r → r ≡ process_table account ms
table_is account ms r h = h.2 ∙ ap (λ v. process_of ms v account) (version_is (last_number (field_name field.Version) ms) h.0 h.1)

is_table : (account : Option (List ℕ)) (ms : List Member) → IsProcessTable account ms (process_table account ms)
is_table account ms = (version ms, is_version (last_number (field_name field.Version) ms), refl)

pub says_one_thing : (account : Option (List ℕ)) (bytes : List ℕ) (r : Read Keys) → AnswersDocument (IsProcessTable account) bytes r → (r ≡ Err invalid.OutOfMemory → ⊥) → r ≡ process_document bytes account
unfolding process_document
says_one_thing account bytes r h n = laws.says_one_thing (IsProcessTable account) (process_table account) (table_is account) bytes r h n

pub said_answers : (account : Option (List ℕ)) (bytes : List ℕ) → AnswersDocument (IsProcessTable account) bytes (process_document bytes account)
unfolding process_document
said_answers account bytes = laws.said_answers (IsProcessTable account) (process_table account) (is_table account) (λ ms. process_fields ms (version ms) account) bytes

pub says_unless_memory : (account : Option (List ℕ)) (bytes : List ℕ) (r : Read Keys) → AnswersDocument (IsProcessTable account) bytes r → is_memory r ≡ false → r ≡ process_document bytes account
unfolding process_document
says_unless_memory account bytes r h f = laws.says_unless_memory (IsProcessTable account) (process_table account) (table_is account) bytes r h f
