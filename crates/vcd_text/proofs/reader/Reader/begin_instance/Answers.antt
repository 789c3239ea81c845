use Rattle.std.specs.Prelude.{ℕ, List, [], ◌∷◌, ◌++◌, map, refl}
use Rattle.std.proofs.Common.{ap, ◌∙◌}
use Rattle.std.proofs.lemmas.List.{map-append}
use Rattle.name_table.specs.Places.{first_place}
use Rattle.vcd_text.specs.Reader.{is_there, scope_of, state_of}
use Rattle.vcd_text.specs.Rules.{OpenScope, inner_path, with_instance}
use Rattle.vcd_text.specs.declared.reader.Scope.{Scope}
use Rattle.vcd_text.proofs.StateLaws.{new_scope, noted_scope, same_state}
use Rattle.vcd_text.proofs.reader.Reader.begin_instance.Goals as goal

pub returns-clause-is : goal.returns-clause-is
returns-clause-is c =
    let scope = new_scope c.replace-outer.new.dest (inner_path c.args.self.now.scope.path c.args.name.now)
    (ap (λ (s : Scope). s.path) c.replace-outer.ensures.after ∙ (c.scope_at.ensures.path ∙ (c.in_ok-path.ensures ∙ ap (λ (l : List ℕ). inner_path l c.args.name.now) c.bytes.ensures)))
    (λ name. ap (λ (s : Scope). is_there (first_place s.names name)) c.replace-outer.ensures.after ∙ c.scope_at.ensures.none name) in
    let noted = noted_scope c.args.self.now.scope c.replace-outer.result c.args.name.now (ap (λ (s : Scope). s.path) c.replace-outer.ensures.value)
    (λ n. ap (λ (s : Scope). first_place s.names n) c.replace-outer.ensures.value ∙ c.in_ok-note.ensures.ok n) in
    let outer = ap (map scope_of) c.in_ok-push.ensures.items
    ∙ (map-append scope_of c.args.self.now.outer.items (c.replace-outer.result ∷ []) ∙ ap (λ (s : OpenScope). map scope_of c.args.self.now.outer.items ++ s ∷ []) noted) in
    same_state _ (with_instance c.args.name.now (state_of c.args.self.now)) refl scope outer refl refl refl refl refl refl refl refl
