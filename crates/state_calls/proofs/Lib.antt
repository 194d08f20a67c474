mod Walks
mod OneCoreRun
