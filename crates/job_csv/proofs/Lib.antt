mod OneJobList
