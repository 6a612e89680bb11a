-- Lines heard one after another: each service that they lead to is sound, and others are heard after them.
use Rattle.std.proofs.Common.{◌≡◌, ℕ, Bool, true, false, cond, List, [], ◌∷◌, ◌++◌, Option, Some, None, refl, ap, sym, subst, ◌∙◌, append_assoc}
use Rattle.hy_event.specs.declared.lines.SessionLine.{SessionLine}
use Rattle.hy_script.specs.declared.Options.{Options}
use Rattle.hy_serving.specs.Saying.{saying}
use Rattle.hy_service.specs.Service.{Service, answer, answers, ends, has_end, heard, heard_all, noted, opening, session_line, taken}
use Rattle.hy_service.specs.Sound.{IsSound}
use Rattle.hy_service.specs.Laws.{DefinitionsStaySound, OpeningsAreSound, ServicesAreSound, TakingStaysSound, LinesAreHeard}

-- ---- soundness

-- a line is one of a session, or none
one_sound : DefinitionsStaySound → TakingStaysSound → (options : Options) (service : Service) (line : List ℕ) (found : Option (ℕ × SessionLine))
    → session_line (saying options service.desk line) ≡ found → IsSound options service → IsSound options (taken options (noted options service line) found)
one_sound defining taking options service line None is sound = defining options service line sound is
one_sound defining taking options service line (Some (number, said)) is sound =
    subst (λ (found : Option (ℕ × SessionLine)). IsSound options (taken options (noted options service line) found)) is
    (taking options service line number said sound is)

either : (options : Options) (so : Bool) (one other : Service) → IsSound options one → IsSound options other → IsSound options (cond so one other)
either options true one other first second = first
either options false one other first second = second

all_sound : DefinitionsStaySound → TakingStaysSound → (options : Options) (service : Service) (lines : List (List ℕ)) → IsSound options service
    → IsSound options (heard_all options service lines)
all_sound defining taking options service [] sound = sound
all_sound defining taking options service (line ∷ lines) sound =
    let next : IsSound options (heard options service line) =
    one_sound defining taking options service line (session_line (saying options service.desk line)) refl sound in
    either options (ends (saying options service.desk line)) service (heard_all options (heard options service line) lines) sound
    (all_sound defining taking options (heard options service line) lines next)

pub services_sound : OpeningsAreSound → DefinitionsStaySound → TakingStaysSound → ServicesAreSound
services_sound opens defining taking options lines sized = all_sound defining taking options (opening options) lines (opens options sized)

-- ---- lines behind others

-- where there is no END, there is none in the first line, and none in the others
not_first : (so rest : Bool) → cond so true rest ≡ false → so ≡ false
not_first true rest none = absurd cc
not_first false rest none = refl

not_later : (so rest : Bool) → cond so true rest ≡ false → rest ≡ false
not_later true rest none = absurd cc
not_later false rest none = none

service_past : (options : Options) (so : Bool) (service whole part : Service) (others : List (List ℕ)) → so ≡ false → whole ≡ heard_all options part others
    → cond so service whole ≡ heard_all options (cond so service part) others
service_past options true service whole part others unended same = absurd cc
service_past options false service whole part others unended same = same

told_past : (options : Options) (so : Bool) (service part : Service) (first whole early : List ℕ) (others : List (List ℕ)) → so ≡ false
    → whole ≡ early ++ answers options part others
    → cond so [] (first ++ whole) ≡ cond so [] (first ++ early) ++ answers options (cond so service part) others
told_past options true service part first whole early others unended same = absurd cc
told_past options false service part first whole early others unended same =
    ap (λ (told : List ℕ). first ++ told) same ∙ sym (append_assoc first early (answers options part others))

end_past : (options : Options) (so : Bool) (service part : Service) (whole : Bool) (others : List (List ℕ)) → so ≡ false → whole ≡ has_end options part others
    → cond so true whole ≡ has_end options (cond so service part) others
end_past options true service part whole others unended same = absurd cc
end_past options false service part whole others unended same = same

service_after : (options : Options) (service : Service) (lines others : List (List ℕ)) → has_end options service lines ≡ false
    → heard_all options service (lines ++ others) ≡ heard_all options (heard_all options service lines) others
service_after options service [] others none = refl
service_after options service (line ∷ lines) others none =
    let next : Service = heard options service line in
    let so : Bool = ends (saying options service.desk line) in
    let rest : Bool = has_end options next lines in
    service_past options so service (heard_all options next (lines ++ others)) (heard_all options next lines) others (not_first so rest none)
    (service_after options next lines others (not_later so rest none))

told_after : (options : Options) (service : Service) (lines others : List (List ℕ)) → has_end options service lines ≡ false
    → answers options service (lines ++ others) ≡ answers options service lines ++ answers options (heard_all options service lines) others
told_after options service [] others none = refl
told_after options service (line ∷ lines) others none =
    let next : Service = heard options service line in
    let so : Bool = ends (saying options service.desk line) in
    let rest : Bool = has_end options next lines in
    told_past options so service (heard_all options next lines) (answer options service line) (answers options next (lines ++ others))
    (answers options next lines) others
    (not_first so rest none) (told_after options next lines others (not_later so rest none))

end_after : (options : Options) (service : Service) (lines others : List (List ℕ)) → has_end options service lines ≡ false
    → has_end options service (lines ++ others) ≡ has_end options (heard_all options service lines) others
end_after options service [] others none = refl
end_after options service (line ∷ lines) others none =
    let next : Service = heard options service line in
    let so : Bool = ends (saying options service.desk line) in
    let rest : Bool = has_end options next lines in
    end_past options so service (heard_all options next lines) (has_end options next (lines ++ others)) others (not_first so rest none)
    (end_after options next lines others (not_later so rest none))

pub lines_heard : LinesAreHeard
lines_heard = record { service = service_after; told = told_after; end = end_after }
