use Rattle.med_top.proofs.MemberLaws.{run_on}
use Rattle.med_top.proofs.groups.open_next.Goals as goal

pub returns-clause-advances : goal.returns-clause-advances
returns-clause-advances g c = record {
  member = c.in_ok-ran.ran.member;
  grown = c.in_ok-push.ensures.ok;
  is_member = c.in_ok-ran.ensures.member;
  asked = c.in_ok-ran.ensures.asked;
  given = c.in_ok-ran.ensures.given;
  stays = λ stopped. absurd (stopped c.requires.settled);
  ends = λ first lower so_far. rw (c.in_ok-push.ensures.ok) (run_on _ _ first _ _ _ _ _ _ _ lower (rw (c.requires.settled) at so_far) c.in_ok-ran.ensures.ends);
}
