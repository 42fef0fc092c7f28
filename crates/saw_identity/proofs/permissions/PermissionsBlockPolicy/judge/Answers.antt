use Rattle.saw_identity.proofs.permissions.PermissionsBlockPolicy.judge.Goals as goal

pub returns : goal.returns
returns g c = c.look.ensures.fault c.args.signer.now c.args._before.now c.in_ok-course.ensures
