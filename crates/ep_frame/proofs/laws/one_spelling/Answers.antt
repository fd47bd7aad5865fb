use Rattle.std.proofs.Common.{refl, sym, ◌∙◌}
use Rattle.ep_frame.specs.Spelling.{spelling}
use Rattle.ep_frame.proofs.Meanings.{version_spelled, sender_spelled, origin_spelled, message_spelled}
use Rattle.ep_frame.proofs.laws.one_spelling.Goals as goal

pub returns-clause-version : goal.returns-clause-version
returns-clause-version c = λ v w b f g o p m n s t. sym (version_spelled v b f o m s) ∙ version_spelled w b g p n t

pub returns-clause-sender : goal.returns-clause-sender
returns-clause-sender c = λ v w b f g o p m n s t. sym (sender_spelled v b f o m s) ∙ sender_spelled w b g p n t

pub returns-clause-origin : goal.returns-clause-origin
returns-clause-origin c = λ v w b f g o p m n s t. sym (origin_spelled v b f o m s) ∙ origin_spelled w b g p n t

pub returns-clause-message : goal.returns-clause-message
returns-clause-message c = λ v w b f g o p m n s t. sym (message_spelled v b f o m s) ∙ message_spelled w b g p n t

pub returns-clause-bytes : goal.returns-clause-bytes
returns-clause-bytes c = λ v a b f o m s t. s.is ∙ sym t.is

pub returns-clause-spelled : goal.returns-clause-spelled
returns-clause-spelled c = λ v f o m g i j k. (spelling v f o m, record { version = g; origin = i; message = j; sayable = k; is = refl })
