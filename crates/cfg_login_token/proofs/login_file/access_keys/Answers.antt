use Rattle.std.proofs.Common.{◌≡◌, ℕ, List, Some, sym, ap, subst, ◌∙◌}
use Rattle.cfg_json.specs.declared.member.Member.{Member}
use Rattle.cfg_json.specs.Objects.{HasObject}
use Rattle.cfg_json.specs.Places.{between}
use Rattle.cfg_login_token.specs.Access.{IsObjectText, last_place}
use Rattle.cfg_login_token.proofs.Inner.{is_object_text}
use Rattle.cfg_login_token.proofs.login_file.access_keys.Goals as goal

at_place : (bytes text name : List ℕ) (members lent : List Member) (end from to : ℕ) → HasObject bytes members end → lent ≡ members → Some (from, to) ≡ last_place name lent → text ≡ between bytes from to → IsObjectText text
at_place bytes text name members lent end from to h same place is =
    subst IsObjectText (sym is) (is_object_text bytes name members end from to h (ap (last_place name) (sym same) ∙ sym place))

pub access-requires : goal.access-requires
access-requires c = at_place c.args.bytes.now _ _ _ _ _ _ _ c.requires c.as_slice.ensures c.in-Some.ensures c.between.ensures
