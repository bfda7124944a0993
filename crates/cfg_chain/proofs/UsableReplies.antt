-- A reply of use gives credentials.
use Rattle.std.proofs.Common.{◌≡◌, ◌≤◌, ℕ, suc, List, [], ◌∷◌, Bool, true, false, cond, Option, Some, None, Result, Ok, Err, refl, ap, ◌∙◌, arith}
use Rattle.std.specs.Str.{encode_utf8_all}
use Rattle.std.specs.Prelude.{◌==◌, IsSome, IfSome, is_ok, codes, option_map, option_and_then}
use Rattle.cfg_base.specs.Text.{characters}
use Rattle.cfg_types.specs.Keys.{Keys}
use Rattle.cfg_types.specs.declared.errors.CredentialsError.{CredentialsError}
use Rattle.cfg_types.specs.declared.errors.UnhandledCause.{UnhandledCause}
use Rattle.cfg_types.specs.declared.reply.sts.StsReply.{StsReply}
use Rattle.cfg_types.specs.declared.reply.sts.StsCredentials.{StsCredentials}
use Rattle.cfg_world.specs.declared.leaves.NotGranted.{NotGranted}
use Rattle.cfg_providers.specs.Sts.{behind_colon, before_colon, fifth_part, account_of, account_or, keys_in, or_unhandled, into_credentials}
use Rattle.cfg_providers.specs.AssumeRole.{granted}
use Rattle.cfg_providers.specs.WebIdentities.{marked, identity_answer}
use Rattle.cfg_chain.specs.Valid.{colons, HasFiveParts, HoldsCredentials, IsGrantOfUse}

-- a text with a colon has a rest behind its first, with one colon less
abbrev Behind : ℕ → List ℕ → Option (List ℕ) → Type 0
Behind n bytes found = (rest : List ℕ) × (found ≡ Some rest) × (n ≤ colons rest)

behind_first : (t : Bool) (bytes : List ℕ) (n : ℕ) → (suc n ≤ colons bytes → Behind n bytes (behind_colon bytes)) →
    suc n ≤ cond t (suc (colons bytes)) (colons bytes) → Behind n bytes (cond t (Some bytes) (behind_colon bytes))
behind_first true bytes n more h = (bytes, refl, omega (arith, h))
behind_first false bytes n more h = more h

behind : (bytes : List ℕ) (n : ℕ) → suc n ≤ colons bytes → Behind n bytes (behind_colon bytes)
behind [] n h = absurd (omega (arith, h))
behind (b ∷ bytes) n h = behind_first (b == 58) bytes n (λ more. behind bytes n more) h

five_parts : (arn : List ℕ) → HasFiveParts arn → (account : List ℕ) × (fifth_part (encode_utf8_all arn) ≡ Some account)
five_parts arn h =
    let bytes = encode_utf8_all arn in
    let one = behind bytes 3 h in
    let two = behind one.0 2 one.2 in
    let three = behind two.0 1 two.2 in
    let four = behind three.0 0 three.2 in (
      before_colon four.0,
      ap (λ o. option_map before_colon (option_and_then behind_colon (option_and_then behind_colon (option_and_then behind_colon o)))) one.1
          ∙ ap (λ o. option_map before_colon (option_and_then behind_colon (option_and_then behind_colon o))) two.1
          ∙ ap (λ o. option_map before_colon (option_and_then behind_colon o)) three.1
          ∙ ap (λ o. option_map before_colon o) four.1,
    )

account_given : (arn : Option (List ℕ)) → IfSome arn HasFiveParts → (account : Option (List ℕ)) × (account_of arn ≡ Ok account)
account_given None h = (None, refl)
account_given (Some arn) h =
    let five = five_parts arn h in
    (Some (characters five.0), ap (λ o. account_or arn (option_map characters o)) five.1)

keys_given : (given : Option StsCredentials) (arn : Option (List ℕ)) (provider : List ℕ) → IsSome given → IfSome arn HasFiveParts → is_ok (keys_in given arn provider) ≡ true
keys_given None arn provider some h = cc
keys_given (Some keys) arn provider some h = let a = account_given arn h in rw (a.1) refl

unhandled_fine : (r : Result Keys UnhandledCause) → is_ok r ≡ true → is_ok (or_unhandled r) ≡ true
unhandled_fine (Ok keys) h = refl
unhandled_fine (Err cause) h = h

reply_given : (given : StsReply) (provider : List ℕ) → HoldsCredentials given → is_ok (into_credentials given provider) ≡ true
unfolding into_credentials
reply_given given provider h = unhandled_fine (keys_in given.credentials given.arn provider) (keys_given given.credentials given.arn provider h.credentials h.arn)

marked_fine : (r : Result Keys CredentialsError) → is_ok r ≡ true → is_ok (marked r) ≡ true
marked_fine (Ok keys) h = refl
marked_fine (Err e) h = h

pub granted_fine : (r : Result StsReply NotGranted) → IsGrantOfUse r → is_ok (granted r) ≡ true
granted_fine (Ok given) h = reply_given given (codes "AssumeRoleProvider") h
granted_fine (Err reason) h = absurd h

pub identity_fine : (r : Result StsReply NotGranted) → IsGrantOfUse r → is_ok (identity_answer r) ≡ true
unfolding identity_answer
identity_fine (Ok given) h = marked_fine (into_credentials given (codes "WebIdentityToken")) (reply_given given (codes "WebIdentityToken") h)
identity_fine (Err reason) h = absurd h
